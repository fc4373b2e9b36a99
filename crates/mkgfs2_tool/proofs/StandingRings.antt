-- The content of the files of a new image: the journals' rings.
use Rattle.std.proofs.Common.{ℕ, zero, suc, ◌≡◌, ◌≢◌, ◌+◌, ◌-◌, ◌*◌, ◌/◌, ◌<◌, ◌≤◌, ◌^◌, inl, inr, Bool, true, false, List, length, replicate, None, Some, refl, sym, ap, ap₂, ◌∙◌, subst, arith}
use Rattle.std.specs.Prelude.{◌%◌, ◌==◌, not, if◌then◌else◌}
use Rattle.std.specs.Int.{w32, from_be_bytes}
use Rattle.std.proofs.lemmas.Bool.{cases_eq, cond-true, cond-false, eq-eqb, ne_eqb, le-ltb}
use Rattle.std.proofs.lemmas.Bool.Decides.{nat_tests}
use Rattle.std.proofs.lemmas.List.{length-replicate, take-replicate}
use Rattle.std.proofs.lemmas.Nat.{div_below, div-add-mod', mod_below}
use Rattle.std.proofs.Math.Nat.{mul-div_cancel, mul-le-mul_right, mul-mod_left, mul_assoc, add-mul}
use Rattle.gfs2_layout.specs.Bytes.{number_at, u32_at, u64_at}
use Rattle.gfs2_layout.specs.Structures.{log_of, header_fault, hash_fault, or_else, answer, magic, dinode_length}
use Rattle.log_layout.specs.Headers.{log_put, as_read, read_behind}
use Rattle.log_layout.specs.Laws.{HasWidths}
use Rattle.log_layout.proofs.SamePlaces.{nothing_live}
use Rattle.log_layout.specs.declared.log_header.LogHeader.{LogHeader}
use Rattle.gfs2_layout.specs.declared.fault.LayoutFault.TheVariants.{Magic}
use Rattle.image_model.specs.Image.{Blocks}
use Rattle.gfs2_layout.specs.Inode.{header_length, pointer, span, descend, content_block}
use Rattle.image_model.specs.Journals.{IsJournal}
use Rattle.log_layout.specs.Journal.{Ring, ring_of, if_at, accepted, better, best_from, head_in}
use Rattle.gfs2_layout.specs.Holding.{Holding, bytes_at}
use Rattle.mkgfs2_tool.specs.Groups.{super_block, data_address}
use Rattle.mkgfs2_tool.specs.Files.{block_pointers, content_blocks, height, level_blocks, level_start, file_blocks}
use Rattle.mkgfs2_tool.specs.Blocks.{zeros, clean_header, clean_block, first_content, journal_block, used_block}
use Rattle.mkgfs2_tool.specs.Order.{journal, journal_place}
use Rattle.mkgfs2_tool.specs.Making.{IsFitting}
use Rattle.mkgfs2_tool.specs.declared.files.Part.TheVariants.{Content}
use Rattle.mkgfs2_tool.specs.declared.plan.Plan.{Plan}
use Rattle.mkgfs2_tool.proofs.StandingGiven.{Given, Known, zeros_are_bytes}
use Rattle.mkgfs2_tool.proofs.StandingShapes.{IsBelow, begins_level, span_some, top_narrow, inside_file}
use Rattle.mkgfs2_tool.proofs.StandingPlan.{address_high, address_low}
use Rattle.mkgfs2_tool.proofs.StandingOwners.{file_place, file_shape, file_use, spot, file_taken, file_some, in_all}
use Rattle.mkgfs2_tool.proofs.StandingFiles.{file_low, large, top_pointers, inner_block, content_at, journal_blocks}
use Rattle.mkgfs2_tool.proofs.StandingInodes.{AreMade, held, file_height, file_size, file_regular, bytes_below, own_bytes}

module _ (p : Plan) (fit : IsFitting p) (known : Known p) (at : Blocks) (made : AreMade p at) (i : ℕ) (ok : i ≤ p.journals) where
  abbrev a : ℕ
  a = spot p i 0

  abbrev h : Holding
  h = held p at a

  pub spot_some : (n : ℕ) → n < file_blocks (file_shape p i) → spot p i n ≢ 0
  spot_some n inside e = absurd (never (super_block p) (spot p i n) (address_high p fit (file_place p i + n) (in_all p fit (file_place p i + n) (file_taken p i n ok inside))) e)
    where
      never : (s n : ℕ) → s < n → n ≡ 0 → ⊥
      never s n less e = absurd (omega (arith, less, e))

  -- from a block so many levels above content its pointers lead down to each block of content below it
  descend_is : (lev l x r : ℕ) → IsBelow (file_shape p i) l x → height (file_shape p i) - l ≡ lev → r < span p.size lev → x * span p.size lev + r < content_blocks (file_shape p i)
      → descend h lev (spot p i (level_start (file_shape p i) l + x)) r ≡ spot p i (level_start (file_shape p i) (height (file_shape p i)) + (x * span p.size lev + r))
  descend_is zero l x r is e low inside = λ t. spot p i (level_start (file_shape p i) (last (height (file_shape p i)) l is.low e t) + whole x r low t)
    where
      last : (n l : ℕ) → l ≤ n → n - l ≡ 0 → l ≡ n
      last n l le e = omega (arith, le, e)

      whole : (x r : ℕ) → r < 1 → x ≡ x * 1 + r
      whole x r low = omega (arith, low)
  descend_is (suc lev) l x r is e low inside =
      cond-false _ _ _ (ne_eqb (spot p i (level_start (file_shape p i) l + x)) 0 (spot_some (level_start (file_shape p i) l + x) (inside_file (file_shape p i) (file_low p fit known i) l x is)))
      ∙ ap (λ b. descend h lev b (r % span p.size lev)) points
      ∙ descend_is lev (suc l) (x * block_pointers p.size + r / span p.size lev) (r % span p.size lev) child (next (height (file_shape p i)) l lev e) (mod_below r (span p.size lev) some) inside'
      ∙ ap (λ n. spot p i (level_start (file_shape p i) (height (file_shape p i)) + n)) same
    where
      some : 1 ≤ span p.size lev
      some = span_some p.size lev (large p fit known)

      lower : (n l lev : ℕ) → n - l ≡ suc lev → l < n
      lower n l lev e = omega (arith, e)

      next : (n l lev : ℕ) → n - l ≡ suc lev → n - suc l ≡ lev
      next n l lev e = omega (arith, e)

      wide : r / span p.size lev < block_pointers p.size
      wide = div_below r (span p.size lev) (block_pointers p.size) some low

      -- of plain numbers
      joined : (x w s r : ℕ) → (x * w + r / s) * s + r % s ≡ x * (w * s) + r
      joined x w s r = ap (λ n. n + r % s) (add-mul (x * w) (r / s) s) ∙ grouped (x * w * s) (r / s * s) (r % s) r (div-add-mod' r s) ∙ ap (λ n. n + r) (mul_assoc x w s)
        where
          grouped : (u v z r : ℕ) → v + z ≡ r → u + v + z ≡ u + r
          grouped u v z r e = omega (arith, e)

      same : (x * block_pointers p.size + r / span p.size lev) * span p.size lev + r % span p.size lev ≡ x * (block_pointers p.size * span p.size lev) + r
      same = joined x (block_pointers p.size) (span p.size lev) r

      inside' : (x * block_pointers p.size + r / span p.size lev) * span p.size lev + r % span p.size lev < content_blocks (file_shape p i)
      inside' = subst (λ n. n < content_blocks (file_shape p i)) (sym same) inside

      child : IsBelow (file_shape p i) (suc l) (x * block_pointers p.size + r / span p.size lev)
      child = record {
        some = omega arith;
        low = lower (height (file_shape p i)) l lev e;
        inside = begins_level (file_shape p i) (file_low p fit known i) (suc l) (x * block_pointers p.size + r / span p.size lev)
            (subst (λ n. (x * block_pointers p.size + r / span p.size lev) * span p.size n < content_blocks (file_shape p i)) (sym (next (height (file_shape p i)) l lev e))
            (begin ((x * block_pointers p.size + r / span p.size lev) * span p.size lev) (r % span p.size lev) (content_blocks (file_shape p i)) inside'));
      }
        where
          begin : (u v n : ℕ) → u + v < n → u < n
          begin u v n less = omega (arith, less)

      points : pointer h header_length (spot p i (level_start (file_shape p i) l + x)) (r / span p.size lev) ≡ spot p i (level_start (file_shape p i) (suc l) + (x * block_pointers p.size + r / span p.size lev))
      points =
          ap (u64_at (24 + 8 * (r / span p.size lev))) (bytes_below p fit known at made i ok l x is)
          ∙ (inner_block p fit known i l x ok is (lower (height (file_shape p i)) l lev e)).pointers.there (r / span p.size lev) wide (few (level_blocks (file_shape p i) (suc l)) (x * block_pointers p.size) (r / span p.size lev) child.inside)
          ∙ ap (spot p i) (turn (level_start (file_shape p i) (suc l)) (x * block_pointers p.size) (r / span p.size lev))
        where
          few : (n u v : ℕ) → u + v < n → v < n - u
          few n u v less = omega (arith, less)

          turn : (s u v : ℕ) → s + u + v ≡ s + (u + v)
          turn s u v = omega arith

  -- block x of content
  pub content_is : (x : ℕ) → 1 ≤ height (file_shape p i) → x < content_blocks (file_shape p i) → content_block h x ≡ spot p i (level_start (file_shape p i) (height (file_shape p i)) + x)
  unfolding content_block
  content_is x high inside =
      ap (λ n. descend h (n - 1) (pointer h dinode_length a (x / span p.size (n - 1))) (x % span p.size (n - 1))) (file_height p fit known at made i ok)
      ∙ from_top (height (file_shape p i) - 1) refl
    where
      from_top : (lev : ℕ) → height (file_shape p i) - 1 ≡ lev → descend h lev (pointer h dinode_length a (x / span p.size lev)) (x % span p.size lev) ≡ spot p i (level_start (file_shape p i) (height (file_shape p i)) + x)
      from_top lev e =
          ap (λ b. descend h lev b (x % span p.size lev)) (ap (u64_at (232 + 8 * (x / span p.size lev))) (own_bytes p fit known at made i ok)
          ∙ (top_pointers p fit known i ok high).there (x / span p.size lev) (top_narrow (file_shape p i) (file_low p fit known i) (x / span p.size lev) child) child.inside)
          ∙ descend_is lev 1 (x / span p.size lev) (x % span p.size lev) child e (mod_below x (span p.size lev) some) (subst (λ n. n < content_blocks (file_shape p i)) (sym (div-add-mod' x (span p.size lev))) inside)
          ∙ ap (λ n. spot p i (level_start (file_shape p i) (height (file_shape p i)) + n)) (div-add-mod' x (span p.size lev))
        where
          some : 1 ≤ span p.size lev
          some = span_some p.size lev (large p fit known)

          begin : (u v n : ℕ) → u + v ≡ n → (m : ℕ) → n < m → u < m
          begin u v n e m less = omega (arith, e, less)

          child : IsBelow (file_shape p i) 1 (x / span p.size lev)
          child = record {
            some = omega arith;
            low = high;
            inside = begins_level (file_shape p i) (file_low p fit known i) 1 (x / span p.size lev)
                (subst (λ n. x / span p.size lev * span p.size n < content_blocks (file_shape p i)) (sym e)
                (begin (x / span p.size lev * span p.size lev) (x % span p.size lev) x (div-add-mod' x (span p.size lev)) (content_blocks (file_shape p i)) inside));
          }

  content_level : (x : ℕ) → x < content_blocks (file_shape p i) → x < level_blocks (file_shape p i) (height (file_shape p i))
  content_level x inside = begins_level (file_shape p i) (file_low p fit known i) (height (file_shape p i)) x
      (subst (λ n. x * span p.size n < content_blocks (file_shape p i)) (none (height (file_shape p i))) (subst (λ n. n < content_blocks (file_shape p i)) (one x) inside))
    where
      none : (n : ℕ) → 0 ≡ n - n
      none n = omega arith

      one : (x : ℕ) → x ≡ x * 1
      one x = omega arith

  pub content_below : (x : ℕ) → 1 ≤ height (file_shape p i) → x < content_blocks (file_shape p i) → IsBelow (file_shape p i) (height (file_shape p i)) x
  content_below x high inside = record { some = high; low = same (height (file_shape p i)); inside = content_level x inside }
    where
      same : (n : ℕ) → n ≤ n
      same n = omega arith

  pub content_some : (x : ℕ) → 1 ≤ height (file_shape p i) → x < content_blocks (file_shape p i) → content_block h x ≢ 0
  content_some x high inside e = spot_some (level_start (file_shape p i) (height (file_shape p i)) + x) (inside_file (file_shape p i) (file_low p fit known i) (height (file_shape p i)) x (content_below x high inside)) (sym (content_is x high inside) ∙ e)

  pub content_bytes : (x : ℕ) → 1 ≤ height (file_shape p i) → x < content_blocks (file_shape p i) → bytes_at h (content_block h x) ≡ used_block p (file_use i (Content x))
  content_bytes x high inside =
      ap (bytes_at h) (content_is x high inside) ∙ bytes_below p fit known at made i ok (height (file_shape p i)) x (content_below x high inside)
      ∙ content_at p fit known i x ok high (content_level x inside)

  pub spot_low : (n : ℕ) → n < file_blocks (file_shape p i) → spot p i n < p.count
  spot_low n inside = address_low p fit (file_place p i + n) (in_all p fit (file_place p i + n) (file_taken p i n ok inside))

  pub content_inside : (x : ℕ) → 1 ≤ height (file_shape p i) → x < content_blocks (file_shape p i) → level_start (file_shape p i) (height (file_shape p i)) + x < file_blocks (file_shape p i)
  content_inside x high inside = inside_file (file_shape p i) (file_low p fit known i) (height (file_shape p i)) x (content_below x high inside)

  -- and in the image
  pub content_there : (x : ℕ) → 1 ≤ height (file_shape p i) → x < content_blocks (file_shape p i) → at (content_block h x) ≡ used_block p (file_use i (Content x))
  content_there x high inside =
      ap at (content_is x high inside)
      ∙ made.is (spot p i (level_start (file_shape p i) (height (file_shape p i)) + x)) (spot_low (level_start (file_shape p i) (height (file_shape p i)) + x) (content_inside x high inside))
      ∙ content_at p fit known i x ok high (content_level x inside)

-- ---- the journals

-- zeros are no header
zeros_refused : (size q : ℕ) → 512 ≤ size → accepted q (replicate size 0) ≡ None
unfolding accepted number_at
zeros_refused size q large =
    ap (if_at q) (cond-false _ _ _ (le-ltb (length clear) 120 (omega (arith, length-replicate {A = ℕ} size 0, large)))
    ∙ ap (λ f. read_behind (answer (or_else f (hash_fault clear)) (log_of clear)) clear) off)
  where
    clear : List ℕ
    clear = replicate size 0

    first : u32_at 0 (replicate size 0) ≡ 0
    first = ap (from_be_bytes w32) (take-replicate 4 size 0 (omega (arith, large)))

    off : header_fault 48 8 800 (replicate size 0) ≡ Some Magic
    off = cond-false _ _ _ (le-ltb (length (replicate size 0)) 48 (omega (arith, length-replicate {A = ℕ} size 0, large)))
        ∙ cond-true _ _ _ (ap not (ap (λ n. n == magic) first))

-- what is read back has the numbers that its hash guards
pub read_blkno : (h : LogHeader) (bytes : List ℕ) → (as_read h bytes).blkno ≡ h.blkno
read_blkno h bytes = each (u32_at 48 bytes == 0)
  where
    each : (b : Bool) → (if b then record h { later = None } else h).blkno ≡ h.blkno
    each true = refl
    each false = refl

pub read_sequence : (h : LogHeader) (bytes : List ℕ) → (as_read h bytes).sequence ≡ h.sequence
read_sequence h bytes = each (u32_at 48 bytes == 0)
  where
    each : (b : Bool) → (if b then record h { later = None } else h).sequence ≡ h.sequence
    each true = refl
    each false = refl

read_clean : (h : LogHeader) (bytes : List ℕ) → (as_read h bytes).clean ≡ h.clean
read_clean h bytes = each (u32_at 48 bytes == 0)
  where
    each : (b : Bool) → (if b then record h { later = None } else h).clean ≡ h.clean
    each true = refl
    each false = refl

header_accepted : (given : Given) (size : ℕ) (h : LogHeader) → 512 ≤ size → HasWidths h → h.blkno ≡ 0 → accepted 0 (log_put h (replicate size 0)) ≡ Some (as_read h (log_put h (replicate size 0)))
unfolding accepted
header_accepted given size h large widths at =
    ap (if_at 0) (given.headers.back h (replicate size 0) (omega (arith, length-replicate {A = ℕ} size 0, large)) (zeros_are_bytes size) widths)
    ∙ cond-true _ _ _ (eq-eqb _ 0 (read_blkno h (log_put h (replicate size 0)) ∙ at))

best_none : (ring : Ring) (q n : ℕ) → ((m : ℕ) → q ≤ m → m < q + n → accepted m (ring.at m) ≡ None) → best_from ring q n ≡ None
best_none ring q zero none = refl
best_none ring q (suc n) none = ap₂ better (none q (omega arith) (omega arith)) (best_none ring (q + 1) n (λ m low high. none m (omega (arith, low)) (omega (arith, high))))

module _ (p : Plan) (fit : IsFitting p) (known : Known p) (at : Blocks) (made : AreMade p at) (j : ℕ) (ok : suc j ≤ p.journals) where
  abbrev hj : Holding
  hj = held p at (spot p (suc j) 0)

  journal_high : 1 ≤ height (file_shape p (suc j))
  journal_high = elim (cases_eq (height (file_shape p (suc j))) 0) [
    | inl e ↦ absurd (never p.journal_blocks p.size fit.plan.some_journal_blocks (stuffed e) (large p fit known))
    | inr d ↦ positive (height (file_shape p (suc j))) d
  ]
    where
      stuffed : height (file_shape p (suc j)) ≡ 0 → p.journal_blocks * p.size ≤ p.size - 232
      stuffed e = grind (arith, nat_tests)

      never : (b s : ℕ) → 512 ≤ b → b * s ≤ s - 232 → 512 ≤ s → ⊥
      never b s some low large = let more : 512 * s ≤ b * s = mul-le-mul_right s some in absurd (omega (arith, more, low, large))

      positive : (n : ℕ) → (n ≡ 0 → ⊥) → 1 ≤ n
      positive zero d = absurd (d refl)
      positive (suc n) d = omega arith

  journal_content : content_blocks (file_shape p (suc j)) ≡ p.journal_blocks
  journal_content = journal_blocks p.size p.journal_blocks fit.plan.size

  pub places_are : (ring_of hj).places ≡ p.journal_blocks
  places_are = ap (λ n. n / p.size) (file_size p fit known at made (suc j) ok) ∙ mul-div_cancel p.journal_blocks (some_size p.size (large p fit known))
    where
      some_size : (n : ℕ) → 512 ≤ n → 0 < n
      some_size n large = omega (arith, large)

  inside_content : (q : ℕ) → q < p.journal_blocks → q < content_blocks (file_shape p (suc j))
  inside_content q low = subst (λ n. q < n) (sym journal_content) low

  first_inside : 0 < content_blocks (file_shape p (suc j))
  first_inside = inside_content 0 (some_blocks p.journal_blocks fit.plan.some_journal_blocks)
    where
      some_blocks : (n : ℕ) → 512 ≤ n → 0 < n
      some_blocks n some = omega (arith, some)

  ring_first : (ring_of hj).at 0 ≡ clean_block p j
  unfolding journal_block used_block
  ring_first = content_bytes p fit known at made (suc j) ok 0 journal_high first_inside

  -- ---- its header

  pub first_block : content_block hj 0 ≡ data_address p (first_content p j)
  first_block = content_is p fit known at made (suc j) ok 0 journal_high first_inside ∙ ap (data_address p) (sum (journal_place p j) (level_start (journal p) (height (journal p))))
    where
      sum : (a b : ℕ) → a + (b + 0) ≡ a + b
      sum a b = omega arith

  pub first_bytes : at (content_block hj 0) ≡ clean_block p j
  unfolding journal_block used_block
  first_bytes = content_there p fit known at made (suc j) ok 0 journal_high first_inside

  pub dinode_block_is : spot p (suc j) 0 ≡ data_address p (journal_place p j)
  dinode_block_is = ap (data_address p) (none (journal_place p j))
    where
      none : (a : ℕ) → a + 0 ≡ a
      none a = omega arith

  abbrev header : LogHeader
  header = clean_header p.time j (data_address p (first_content p j)) (data_address p (journal_place p j))

  narrow : (n : ℕ) → n < p.count → n < 2 ^ 64
  narrow n low = through n p.count low fit.count
    where
      through : (a c : ℕ) → a < c → c ≤ 131072 → a < 2 ^ 64
      through a c low few = omega (arith, low, few)

  first_low : data_address p (first_content p j) < 2 ^ 64
  first_low = subst (λ n. n < 2 ^ 64) (sym (content_is p fit known at made (suc j) ok 0 journal_high first_inside) ∙ first_block)
      (narrow (spot p (suc j) (level_start (file_shape p (suc j)) (height (file_shape p (suc j))) + 0)) (spot_low p fit known at made (suc j) ok (level_start (file_shape p (suc j)) (height (file_shape p (suc j))) + 0) (content_inside p fit known at made (suc j) ok 0 journal_high first_inside)))

  dinode_low : data_address p (journal_place p j) < 2 ^ 64
  dinode_low = subst (λ n. n < 2 ^ 64) dinode_block_is (narrow (spot p (suc j) 0) (spot_low p fit known at made (suc j) ok 0 (file_some p (suc j))))

  header_widths : HasWidths header
  header_widths = record {
    front = (omega arith, (omega arith, (omega arith, (few, (omega arith, (omega arith, (omega arith, (omega arith, tt))))))));
    later = (omega arith, (known.time, (first_low, (dinode_low, (omega arith, (omega arith, (omega arith, (omega arith, (omega arith, tt)))))))));
  }
    where
      under : (j n : ℕ) → suc j ≤ n → n ≤ 8 → j < 2 ^ 32
      under j n a b = omega (arith, a, b)

      few : j < 2 ^ 32
      few = under j p.journals ok fit.plan.journals

  first_accepted : accepted 0 (clean_block p j) ≡ Some (as_read header (clean_block p j))
  unfolding clean_block
  first_accepted = header_accepted known.given p.size header (large p fit known) header_widths refl

  ring_later : (q : ℕ) → 1 ≤ q → q < p.journal_blocks → (ring_of hj).at q ≡ zeros p
  unfolding journal_block used_block
  ring_later q some low = content_bytes p fit known at made (suc j) ok q journal_high (inside_content q low) ∙ cond-false _ _ _ (ne_eqb q 0 (λ e. absurd (omega (arith, e, some))))

  best_is : (n : ℕ) → suc n ≤ p.journal_blocks → best_from (ring_of hj) 0 (suc n) ≡ Some (as_read header (clean_block p j))
  best_is n few =
      ap₂ better (ap (accepted 0) ring_first ∙ first_accepted)
      (best_none (ring_of hj) 1 n (λ m low high. ap (accepted m) (ring_later m low (below_count m n p.journal_blocks high few)) ∙ zeros_refused p.size m (large p fit known)))
    where
      below_count : (m n b : ℕ) → m < 1 + n → suc n ≤ b → m < b
      below_count m n b high few = omega (arith, high, few)

  -- the head of a new journal is its clean header, as it is read
  pub ring_head : head_in (ring_of hj) ≡ Some (as_read header (clean_block p j))
  unfolding head_in
  ring_head = ap (best_from (ring_of hj) 0) (places_are ∙ one_more p.journal_blocks fit.plan.some_journal_blocks) ∙ best_is (p.journal_blocks - 1) (same p.journal_blocks fit.plan.some_journal_blocks)
    where
      one_more : (n : ℕ) → 512 ≤ n → n ≡ suc (n - 1)
      one_more n some = omega (arith, some)

      same : (n : ℕ) → 512 ≤ n → suc (n - 1) ≤ n
      same n some = omega (arith, some)

  pub new_journal : IsJournal hj
  new_journal = record {
    file = file_regular p fit known at made (suc j) ok;
    whole = ap (λ n. n % p.size) (file_size p fit known at made (suc j) ok) ∙ mul-mod_left p.journal_blocks p.size;
    filled = λ q low. content_some p fit known at made (suc j) ok q journal_high (inside_content q (subst (λ n. q < n) places_are low));
    readable = (nothing_live (ring_of hj) (as_read header (clean_block p j), ring_head, read_clean header (clean_block p j))).readable;
  }
