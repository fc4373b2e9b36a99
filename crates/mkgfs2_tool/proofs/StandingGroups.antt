-- Each group of a new image has the bits and the counts that its blocks' owners ask for.
use Rattle.std.proofs.Common.{ℕ, zero, suc, ◌≡◌, ◌+◌, ◌-◌, ◌*◌, ◌/◌, ◌<◌, ◌≤◌, inl, inr, List, [], ◌∷◌, map, refl, sym, ap, ◌∙◌, subst, arith}
use Rattle.std.specs.Prelude.{if◌then◌else◌, slice_index_or}
use Rattle.std.specs.List.{AllByRecursion, range_with_len}
use Rattle.std.proofs.lemmas.Bool.{cases_lt, cond-true, lt-ltb}
use Rattle.std.proofs.lemmas.List.FromFn.{get_or-map-range_with_len}
use Rattle.gfs2_layout.specs.Bitmap.{state_at}
use Rattle.gfs2_layout.specs.Fields.{HasItsWidth}
use Rattle.gfs2_layout.specs.Structures.{group_of}
use Rattle.gfs2_layout.specs.Writing.{group_fields}
use Rattle.gfs2_layout.specs.declared.group_header.GroupHeader.{GroupHeader}
use Rattle.gfs2_layout.specs.declared.rindex.Rindex.{Rindex}
use Rattle.gfs2_layout.specs.Groups.{bitmap_of, group_header, states_in, count_of}
use Rattle.image_model.specs.Groups.{group_blocks, state_of, states_of, IsGroup, IsListed}
use Rattle.gfs2_layout.specs.Headers.{HasHeader}
use Rattle.image_model.specs.Image.{Blocks}
use Rattle.mkgfs2_tool.specs.Groups.{last_group, group_address, group_blocks as blocks_of, headers_of, first_data, data_blocks, data_before}
use Rattle.mkgfs2_tool.specs.Order.{taken, use_of}
use Rattle.mkgfs2_tool.specs.Blocks.{is_dinode, state, free_blocks, dinode_blocks, group_entry, group_header as new_header}
use Rattle.mkgfs2_tool.specs.Making.{IsFitting}
use Rattle.mkgfs2_tool.specs.Standing.{new_layout}
use Rattle.mkgfs2_tool.specs.declared.files.Part.TheVariants.{Top, Pointers, Content}
use Rattle.mkgfs2_tool.specs.declared.order.Use.{Use}
use Rattle.mkgfs2_tool.specs.declared.order.Use.TheVariants as use_is
use Rattle.mkgfs2_tool.specs.declared.plan.Plan.{Plan}
use Rattle.mkgfs2_tool.proofs.StandingGiven.{Known}
use Rattle.mkgfs2_tool.proofs.StandingOwners.{use_owner, owner, owner_room, owner_free}
use Rattle.mkgfs2_tool.proofs.StandingInodes.{AreMade}
use Rattle.mkgfs2_tool.proofs.StandingList.{AreSmall, small_group}
use Rattle.mkgfs2_tool.proofs.StandingZones.{IsGroupOf, listed, bits_fit}
use Rattle.mkgfs2_tool.proofs.StandingBits.{bitmap_state, first_at, further_at, bits_are}
use Rattle.mkgfs2_tool.proofs.StandingTallies.{state_free, state_used, free_counted, dinodes_counted, few_dinodes}

map_shift : {X : Type 0} (f g : ℕ → X) (a b n : ℕ) → ((i : ℕ) → i < n → f (a + i) ≡ g (b + i)) → map f (range_with_len a n) ≡ map g (range_with_len b n)
map_shift f g a b zero same = refl
map_shift f g a b (suc n) same = λ t. (ap f (none a) ∙ same 0 (omega arith) ∙ ap g (sym (none b))) t ∷ map_shift f g (a + 1) (b + 1) n (λ i low. ap f (turn a i) ∙ same (suc i) (omega (arith, low)) ∙ ap g (sym (turn b i))) t
  where
    none : (n : ℕ) → n ≡ n + 0
    none n = omega arith

    turn : (a i : ℕ) → a + 1 + i ≡ a + suc i
    turn a i = omega arith

-- a used block's state is that of its use
state_use : (p : Plan) (u : Use) → state_of (use_owner p u) ≡ (if is_dinode u then 3 else 1)
state_use p use_is.Master = refl
state_use p use_is.Root = refl
state_use p use_is.Journals = refl
state_use p (use_is.Leaf n) = refl
state_use p (use_is.GroupList Top) = refl
state_use p (use_is.GroupList (Pointers l x)) = refl
state_use p (use_is.GroupList (Content x)) = refl
state_use p (use_is.Journal j Top) = refl
state_use p (use_is.Journal j (Pointers l x)) = refl
state_use p (use_is.Journal j (Content x)) = refl

group_widths : (h d f n k s : ℕ) → h ≤ 131072 → d ≤ 131072 → f ≤ d → n ≤ 12 → k ≤ 12 → s ≤ 131072
    → AllByRecursion HasItsWidth (group_fields (record { flags = 0; free = f; dinodes = n; skip = 0; igeneration = k; data0 = s; data_blocks = d; bitbytes = d / 4 }))
group_widths h d f n k s hl dl fl nl kl sl =
    (omega arith, (omega arith, (omega arith, (omega arith, (omega arith, (omega (arith, fl, dl), (omega (arith, nl), (omega arith, (omega (arith, kl), (omega (arith, sl), (omega (arith, dl), (omega (arith, dl), tt))))))))))))

module _ (p : Plan) (fit : IsFitting p) (known : Known p) (at : Blocks) (made : AreMade p at) where
  widths : (g : ℕ) → g ≤ last_group p → AllByRecursion HasItsWidth (group_fields (new_header p g))
  widths g ok = from (small_group p fit g ok)
    where
      less : (d t : ℕ) → d - t ≤ d
      less d t = omega arith

      few : (n : ℕ) → n ≤ 8 → 4 + n ≤ 12
      few n le = omega (arith, le)

      from : AreSmall (group_address p g) (headers_of p g) (first_data p g) (data_blocks p g) → AllByRecursion HasItsWidth (group_fields (new_header p g))
      from small = group_widths (headers_of p g) (data_blocks p g) (free_blocks p g) (dinode_blocks p g) (4 + p.journals) (first_data p g) small.length small.data_blocks (less (data_blocks p g) (taken p - data_before p g))
          (few_dinodes p fit known (data_before p g) (data_blocks p g)) (few p.journals fit.plan.journals) small.data0

  module _ (g : ℕ) (ok : g ≤ last_group p) where
    abbrev blocks : List (List ℕ)
    blocks = group_blocks at (group_entry p g)

    owner_state : (i : ℕ) → i < data_blocks p g → state_of (owner p (first_data p g + i)) ≡ state p (data_before p g + i)
    owner_state i inside = elim (cases_lt (data_before p g + i) (taken p)) [
      | inl low ↦ ap state_of (owner_room p fit g i ok inside ∙ cond-true _ _ _ (lt-ltb (data_before p g + i) (taken p) low)) ∙ state_use p (use_of p (data_before p g + i)) ∙ sym (state_used p (data_before p g + i) low)
      | inr ge ↦ ap state_of (owner_free p fit g i ok inside ge) ∙ sym (state_free p (data_before p g + i) ge)
    ]

    -- the states by owners are those of the places
    states_are : states_of (owner p) (group_entry p g) ≡ map (state p) (range_with_len (data_before p g) (data_blocks p g))
    states_are = map_shift (λ b. state_of (owner p b)) (state p) (first_data p g) (data_before p g) (data_blocks p g) owner_state

    abbrev total : ℕ
    total = p.size - 128 + (headers_of p g - 1) * (p.size - 24)

    bit_state : (i : ℕ) → i < data_blocks p g → state_at (bitmap_of blocks) (0 + i) ≡ state p (data_before p g + i)
    bit_state i inside =
        ap (state_at (bitmap_of blocks)) (none i) ∙ ap (λ (bytes : List ℕ). state_at bytes i) (bits_are p fit known at made g ok (widths g ok))
        ∙ bitmap_state p g total i (through i (data_blocks p g) total inside (bits_fit p.size (blocks_of p g) fit.plan.size))
        ∙ cond-true _ (state p (data_before p g + i)) 0 (lt-ltb i (data_blocks p g) inside)
      where
        none : (n : ℕ) → 0 + n ≡ n
        none n = omega arith

        through : (i d t : ℕ) → i < d → d ≤ 4 * t → i < 4 * t
        through i d t low le = omega (arith, low, le)

    bits_say : states_in blocks (data_blocks p g) ≡ states_of (owner p) (group_entry p g)
    bits_say = map_shift (state_at (bitmap_of blocks)) (state p) 0 (data_before p g) (data_blocks p g) bit_state ∙ sym states_are

    some_header : 0 < headers_of p g
    some_header = omega arith

    block_at : (k : ℕ) → k < headers_of p g → slice_index_or blocks k [] ≡ at (group_address p g + k)
    block_at k low = get_or-map-range_with_len at (group_address p g) (headers_of p g) k (group_address p g + k) [] low refl

    first_block : slice_index_or blocks 0 [] ≡ at (group_address p g)
    first_block = block_at 0 some_header ∙ ap at (none (group_address p g))
      where
        none : (n : ℕ) → n + 0 ≡ n
        none n = omega arith

    header_is : group_header blocks ≡ new_header p g
    header_is = ap group_of first_block ∙ (first_at p fit known at made g ok (widths g ok)).is

    more_header : (k : ℕ) → 0 < k → k < headers_of p g → HasHeader 3 300 (slice_index_or blocks k [])
    more_header zero some low = absurd (omega (arith, some))
    more_header (suc n) some low = subst (HasHeader 3 300) (sym (block_at (suc n) low)) (further_at p fit known at made g ok (widths g ok) n low).header

    pub group_is : IsGroup (group_entry p g) blocks (states_of (owner p) (group_entry p g))
    group_is = record {
      header = subst (HasHeader 2 200) (sym first_block) (first_at p fit known at made g ok (widths g ok)).header;
      more = more_header;
      data0 = ap (λ (h : GroupHeader). h.data0) header_is;
      data_blocks = ap (λ (h : GroupHeader). h.data_blocks) header_is;
      bitbytes = ap (λ (h : GroupHeader). h.bitbytes) header_is;
      bits = bits_say;
      free = ap (λ (h : GroupHeader). h.free) header_is ∙ sym (ap (count_of 0) states_are ∙ free_counted p (data_before p g) (data_blocks p g));
      dinodes = ap (λ (h : GroupHeader). h.dinodes) header_is ∙ sym (ap (count_of 3) states_are ∙ dinodes_counted p fit known (data_before p g) (data_blocks p g));
    }

  pub groups_are : (e : Rindex) → IsListed (new_layout p).groups e → IsGroup e (group_blocks at e) (states_of (owner p) e)
  groups_are e is = from (listed p fit known e is)
    where
      from : IsGroupOf p e → IsGroup e (group_blocks at e) (states_of (owner p) e)
      from q = subst (λ (x : Rindex). IsGroup x (group_blocks at x) (states_of (owner p) x)) (sym q.is) (group_is q.group q.ok)
