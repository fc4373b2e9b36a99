-- Who owns each block of a new image.
use Rattle.std.proofs.Common.{ℕ, zero, suc, ◌≡◌, ◌+◌, ◌-◌, ◌*◌, ◌/◌, ◌<◌, ◌≤◌, ◌⊎◌, inl, inr, List, codes, refl, sym, ap, ◌∙◌, subst, arith}
use Rattle.std.specs.Prelude.{◌%◌, ◌^◌, ◌==◌, nat_lt, nat_le, if◌then◌else◌}
use Rattle.std.proofs.lemmas.Bool.{cases_lt, cases_order, cond-true, cond-false, eq-eqb, ne_eqb, lt-ltb, le-ltb, le-leb, lt-leb}
use Rattle.std.proofs.lemmas.Nat.{div-mul-add, mod-mul-add, div-add-mod', mod_below, div_below, row_fits}
use Rattle.gfs2_layout.specs.Inode.{span}
use Rattle.image_model.specs.Journals.{journal_name}
use Rattle.image_model.specs.Owners.{Owner, Super, InGroup, Free, Nobody, Root, Master, Named, Below, Chained, Owners, IsUsed}
use Rattle.mkgfs2_tool.specs.Groups.{super_block, last_group, group_address, group_blocks, headers_of, first_data, data_blocks, data_before, all_data, data_address}
use Rattle.mkgfs2_tool.specs.Files.{block_pointers, height, level_start, file_blocks, part}
use Rattle.mkgfs2_tool.specs.Order.{master_place, root_place, group_list_place, journals_place, journal_leaves, is_split, leaf_place, journal_place, group_list, journal, taken, use_of, journal_use}
use Rattle.mkgfs2_tool.specs.Blocks.{group_at}
use Rattle.mkgfs2_tool.specs.Making.{IsFitting}
use Rattle.mkgfs2_tool.specs.declared.files.Shape.{Shape}
use Rattle.mkgfs2_tool.specs.declared.files.Part.{Part}
use Rattle.mkgfs2_tool.specs.declared.files.Part.TheVariants.{Top, Pointers, Content}
use Rattle.mkgfs2_tool.specs.declared.order.Use.{Use}
use Rattle.mkgfs2_tool.specs.declared.order.Use.TheVariants as use_is
use Rattle.mkgfs2_tool.specs.declared.plan.Plan.{Plan}
use Rattle.mkgfs2_tool.proofs.StandingGround.{IsRoom, IsOver, over_at, block_over, group_ends}
use Rattle.mkgfs2_tool.proofs.StandingPlan.{ground, ground_is, address_at, room_of}

-- ---- the files: the list of groups, and the journals

abbrev pub file_place : Plan → ℕ → ℕ
file_place p zero = group_list_place
file_place p (suc j) = journal_place p j

abbrev pub file_bytes : Plan → ℕ → ℕ
file_bytes p zero = 96 * p.groups
file_bytes p (suc j) = p.journal_blocks * p.size

abbrev pub file_shape : Plan → ℕ → Shape
file_shape p i = record { size = p.size; bytes = file_bytes p i }

abbrev pub file_use : ℕ → Part → Use
file_use zero part = use_is.GroupList part
file_use (suc j) part = use_is.Journal j part

-- the address of block n of a file
abbrev pub spot : Plan → ℕ → ℕ → ℕ
spot p i n = data_address p (file_place p i + n)

-- how the file is named, and where
abbrev pub file_parent : Plan → ℕ → ℕ
file_parent p zero = data_address p master_place
file_parent p (suc j) = data_address p (journals_place p)

abbrev pub file_name : ℕ → List ℕ
file_name zero = codes "rindex"
file_name (suc j) = journal_name j

abbrev pub named : Plan → ℕ → Owner
named p i = Named (file_parent p i) (file_name i)

-- what leads to block x of a level below the dinode: this block, by this pointer
abbrev pub up_block : Plan → ℕ → ℕ → ℕ → ℕ
up_block p i zero x = 0
up_block p i (suc zero) x = 0
up_block p i (suc (suc l)) x = level_start (file_shape p i) (suc l) + x / block_pointers p.size

abbrev pub up_pointer : Plan → ℕ → ℕ → ℕ
up_pointer p zero x = x
up_pointer p (suc zero) x = x
up_pointer p (suc (suc l)) x = x % block_pointers p.size

abbrev pub below_owner : Plan → ℕ → ℕ → ℕ → Owner
below_owner p i l x = Below (spot p i 0) (spot p i (up_block p i l x)) (up_pointer p l x) (height (file_shape p i) - l) (x * span p.size (height (file_shape p i) - l))

abbrev pub file_owner : Plan → ℕ → Part → Owner
file_owner p i Top = named p i
file_owner p i (Pointers l x) = below_owner p i l x
file_owner p i (Content x) = below_owner p i (height (file_shape p i)) x

-- ---- the leaves of the directory of journals: of two the one that was taken last has the lower half of the hashes

abbrev pub leaf_hash : Plan → ℕ → ℕ
leaf_hash p n = if is_split p then (if n == 0 then 2 ^ 31 else 0) else 0

abbrev pub leaf_owner : Plan → ℕ → Owner
leaf_owner p n = Chained (data_address p (journals_place p)) (leaf_hash p n) 0

abbrev pub use_owner : Plan → Use → Owner
use_owner p use_is.Master = Master
use_owner p use_is.Root = Root
use_owner p (use_is.GroupList part) = file_owner p 0 part
use_owner p use_is.Journals = Named (data_address p master_place) (codes "jindex")
use_owner p (use_is.Journal j part) = file_owner p (suc j) part
use_owner p (use_is.Leaf n) = leaf_owner p n

abbrev pub data_owner : Plan → ℕ → ℕ → Owner
data_owner p group k = if nat_lt k (taken p) then use_owner p (use_of p k) else Free (group_address p group)

abbrev pub group_owner : Plan → ℕ → ℕ → Owner
group_owner p group n =
    if nat_lt n (headers_of p group) then InGroup (group_address p group)
    else if nat_lt (n - headers_of p group) (data_blocks p group) then data_owner p group (data_before p group + (n - headers_of p group))
    else Nobody

pub owner : Plan → Owners
owner p b =
    if nat_le b (super_block p) then Super
    else if nat_lt b p.count then group_owner p (group_at p b) (b - group_address p (group_at p b))
    else Nobody

-- where a block is
pub data Zone (p : Plan) (b : ℕ) : Type 0 where
  is_low : b ≤ super_block p → Zone p b
  is_past : super_block p < b → p.count ≤ b → Zone p b
  is_header : (g n : ℕ) → g ≤ last_group p → n < headers_of p g → b ≡ group_address p g + n → Zone p b
  is_room : (g r : ℕ) → g ≤ last_group p → r < data_blocks p g → b ≡ first_data p g + r → Zone p b
  is_end : (g n : ℕ) → g ≤ last_group p → headers_of p g + data_blocks p g ≤ n → n < group_blocks p g → b ≡ group_address p g + n → Zone p b

-- a block that is taken
pub data Kept (p : Plan) (k : ℕ) : Type 0 where
  is_master : k ≡ master_place → Kept p k
  is_root : k ≡ root_place → Kept p k
  is_journals : k ≡ journals_place p → Kept p k
  is_leaf : (n : ℕ) → n < journal_leaves p → k ≡ leaf_place p n → Kept p k
  is_file : (i n : ℕ) → i ≤ p.journals → n < file_blocks (file_shape p i) → k ≡ file_place p i + n → Kept p k

gone : (a r : ℕ) → a + r - a ≡ r
gone a r = omega arith

some_blocks : (f : Shape) → 1 ≤ file_blocks f
some_blocks f = omega (arith, same, from (suc (height f)) (omega arith))
  where
    same : file_blocks f ≡ level_start f (suc (height f))
    same = ap (level_start f) (let e : 1 + height f ≡ suc (height f) = omega arith in e)

    from : (m : ℕ) → 1 ≤ m → 1 ≤ level_start f m
    from zero some = absurd (omega (arith, some))
    from (suc zero) some = omega arith
    from (suc (suc m)) some = omega (arith, from (suc m) (omega arith))

pub file_some : (p : Plan) (i : ℕ) → 1 ≤ file_blocks (file_shape p i)
file_some p i = some_blocks (file_shape p i)

-- ---- which use a place has

pub use_of_journals : (p : Plan) → use_of p (journals_place p) ≡ use_is.Journals
use_of_journals p =
    cond-false _ _ _ (ne_eqb (journals_place p) 0 (λ e. absurd (omega (arith, e))))
    ∙ cond-false _ _ _ (ne_eqb (journals_place p) 1 (λ e. absurd (omega (arith, e))))
    ∙ cond-false _ _ _ (le-ltb (journals_place p) (journals_place p) (omega arith))
    ∙ cond-true _ _ _ (eq-eqb (journals_place p) (journals_place p) refl)

-- over plain numbers: place n of the list, and place n of the blocks of the journals
use_of_list : (p : Plan) (n : ℕ) → n < file_blocks (group_list p) → use_of p (2 + n) ≡ use_is.GroupList (part (group_list p) n)
use_of_list p n low =
    cond-false _ _ _ (ne_eqb (2 + n) 0 (λ e. absurd (omega (arith, e))))
    ∙ cond-false _ _ _ (ne_eqb (2 + n) 1 (λ e. absurd (omega (arith, e))))
    ∙ cond-true _ _ _ (lt-ltb (2 + n) (journals_place p) (omega (arith, low)))
    ∙ ap (λ m. use_is.GroupList (part (group_list p) m)) (gone 2 n)

-- behind the directory's dinode
use_later : (p : Plan) (m : ℕ) → use_of p (leaf_place p m) ≡ (if nat_lt (leaf_place p m) (journal_place p 0) then use_is.Leaf (leaf_place p m - leaf_place p 0) else journal_use p (leaf_place p m - journal_place p 0))
use_later p m =
    cond-false _ _ _ (ne_eqb (leaf_place p m) 0 (λ e. absurd (omega (arith, e))))
    ∙ cond-false _ _ _ (ne_eqb (leaf_place p m) 1 (λ e. absurd (omega (arith, e))))
    ∙ cond-false _ _ _ (le-ltb (leaf_place p m) (journals_place p) (omega arith))
    ∙ cond-false _ _ _ (ne_eqb (leaf_place p m) (journals_place p) (λ e. absurd (omega (arith, e))))

pub use_of_leaf : (p : Plan) (n : ℕ) → n < journal_leaves p → use_of p (leaf_place p n) ≡ use_is.Leaf n
use_of_leaf p n low =
    use_later p n ∙ cond-true _ _ _ (lt-ltb (leaf_place p n) (journal_place p 0) (omega (arith, low))) ∙ ap use_is.Leaf (first (journals_place p) n)
  where
    first : (a n : ℕ) → a + 1 + n - (a + 1 + 0) ≡ n
    first a n = omega arith

use_behind : (p : Plan) (m : ℕ) → use_of p (leaf_place p (journal_leaves p) + m) ≡ journal_use p m
use_behind p m =
    ap (use_of p) (turn (journals_place p + 1) (journal_leaves p) m) ∙ use_later p (journal_leaves p + m)
    ∙ cond-false _ _ _ (le-ltb (leaf_place p (journal_leaves p + m)) (journal_place p 0) (omega arith))
    ∙ ap (journal_use p) (behind_first (journals_place p + 1) (journal_leaves p) m (file_blocks (journal p)))
  where
    turn : (a b m : ℕ) → a + b + m ≡ a + (b + m)
    turn a b m = omega arith

    behind_first : (a b m n : ℕ) → a + (b + m) - (a + b + 0 * n) ≡ m
    behind_first a b m n = omega arith

use_of_journal : (p : Plan) (j n : ℕ) → n < file_blocks (journal p) → use_of p (journal_place p j + n) ≡ use_is.Journal j (part (journal p) n)
use_of_journal p j n low =
    ap (use_of p) (let e : leaf_place p (journal_leaves p) + j * file_blocks (journal p) + n ≡ leaf_place p (journal_leaves p) + (j * file_blocks (journal p) + n) = omega arith in e)
    ∙ use_behind p (j * file_blocks (journal p) + n)
    ∙ (λ i. use_is.Journal (div-mul-add j (file_blocks (journal p)) n low i) (part (journal p) (mod-mul-add j (file_blocks (journal p)) n low i)))

pub use_of_file : (p : Plan) (i n : ℕ) → n < file_blocks (file_shape p i) → use_of p (file_place p i + n) ≡ file_use i (part (file_shape p i) n)
use_of_file p zero n low = use_of_list p n low
use_of_file p (suc j) n low = use_of_journal p j n low

pub kept : (p : Plan) (k : ℕ) → k < taken p → Kept p k
kept p zero low = is_master refl
kept p (suc zero) low = is_root refl
kept p (suc (suc n)) low = elim (cases_order (suc (suc n)) (journals_place p)) [
  | inl e ↦ is_journals e
  | inr (inl less) ↦ is_file 0 n (omega arith) (omega (arith, less)) (omega arith)
  | inr (inr more) ↦ later (cases_lt (suc (suc n)) (leaf_place p (journal_leaves p))) more
]
  where
    of_journals : (m : ℕ) → suc (suc n) ≡ leaf_place p (journal_leaves p) + m → Kept p (suc (suc n))
    of_journals m e =
        let fb = file_blocks (journal p) in
        is_file (suc (m / fb)) (m % fb) (div_below m fb p.journals (some_blocks (journal p)) (omega (arith, low, e)))
        (mod_below m fb (some_blocks (journal p))) (omega (arith, e, div-add-mod' m fb))

    later : (suc (suc n) < leaf_place p (journal_leaves p)) ⊎ (leaf_place p (journal_leaves p) ≤ suc (suc n)) → journals_place p < suc (suc n) → Kept p (suc (suc n))
    later (inl leaf) more = is_leaf (suc (suc n) - leaf_place p 0) (omega (arith, leaf, more)) (omega (arith, more))
    later (inr behind) more = of_journals (suc (suc n) - leaf_place p (journal_leaves p)) (omega (arith, behind))

-- each file has a place of its own
pub file_apart : (p : Plan) (i k : ℕ) → file_place p i ≡ file_place p k → i ≡ k
file_apart p zero zero e = refl
file_apart p zero (suc j) e = absurd (omega (arith, e))
file_apart p (suc j) zero e = absurd (omega (arith, e))
file_apart p (suc j) (suc k) e = ap suc (elim (cases_order j k) [
  | inl same ↦ same
  | inr (inl less) ↦ absurd (omega (arith, e, some_blocks (journal p), row_fits j (file_blocks (journal p)) k (file_blocks (journal p)) less (omega arith)))
  | inr (inr more) ↦ absurd (omega (arith, e, some_blocks (journal p), row_fits k (file_blocks (journal p)) j (file_blocks (journal p)) more (omega arith)))
])

-- none is that of the directory of journals
pub file_not_journals : (p : Plan) (i : ℕ) → file_place p i ≡ journals_place p → ⊥
file_not_journals p zero e = absurd (before (file_blocks (group_list p)) (file_some p 0) e)
  where
    before : (n : ℕ) → 1 ≤ n → 2 ≡ 2 + n → ⊥
    before n some e = absurd (omega (arith, some, e))
file_not_journals p (suc j) e = absurd (omega (arith, e))

-- a file's blocks are taken
pub file_taken : (p : Plan) (i n : ℕ) → i ≤ p.journals → n < file_blocks (file_shape p i) → file_place p i + n < taken p
file_taken p zero n ok low = omega (arith, low)
file_taken p (suc j) n ok low = omega (arith, low, row_fits j (file_blocks (journal p)) p.journals (file_blocks (journal p)) ok (omega arith))

pub some_taken : (p : Plan) → 0 < taken p
some_taken p = omega arith

pub two_taken : (p : Plan) → 1 < taken p
two_taken p = omega arith

pub journals_taken : (p : Plan) → journals_place p < taken p
journals_taken p = omega arith

pub leaf_taken : (p : Plan) (n : ℕ) → n < journal_leaves p → leaf_place p n < taken p
leaf_taken p n low = omega (arith, low)

module _ (p : Plan) (fit : IsFitting p) where
  pub zone : (b : ℕ) → Zone p b
  zone b = elim (cases_lt (super_block p) b) [
    | inr le ↦ is_low le
    | inl high ↦ elim (cases_lt b p.count) [
      | inr ge ↦ is_past high ge
      | inl less ↦ over (block_over (ground p) (ground_is p fit) b high less)
    ]
  ]
    where
      over : IsOver (ground p) b → Zone p b
      over at = elim (cases_lt at.offset (headers_of p at.group)) [
        | inl l ↦ is_header at.group at.offset at.listed l at.is
        | inr ge ↦ elim (cases_lt (at.offset - headers_of p at.group) (data_blocks p at.group)) [
          | inl l ↦ is_room at.group (at.offset - headers_of p at.group) at.listed l (omega (arith, at.is, ge))
          | inr ge' ↦ is_end at.group at.offset at.listed (omega (arith, ge, ge')) at.inside at.is
        ]
      ]

  pub owner_low : (b : ℕ) → b ≤ super_block p → owner p b ≡ Super
  unfolding owner
  owner_low b le = cond-true _ _ _ (le-leb b (super_block p) le)

  pub owner_past : (b : ℕ) → super_block p < b → p.count ≤ b → owner p b ≡ Nobody
  unfolding owner
  owner_past b high ge = cond-false _ _ _ (lt-leb b (super_block p) high) ∙ cond-false _ _ _ (le-ltb b p.count ge)

  owner_at : (g n : ℕ) → g ≤ last_group p → n < group_blocks p g → group_address p g + group_blocks p g ≤ p.count → owner p (group_address p g + n) ≡ group_owner p g n
  unfolding owner
  owner_at g n ok inside ends =
      cond-false _ _ _ (lt-leb (group_address p g + n) (super_block p) (omega arith))
      ∙ cond-true _ _ _ (lt-ltb (group_address p g + n) p.count (omega (arith, inside, ends)))
      ∙ ap (λ m. group_owner p m (group_address p g + n - group_address p m)) (over_at (ground p) (ground_is p fit) g n ok inside)
      ∙ ap (group_owner p g) (gone (group_address p g) n)

  ends_low : (g : ℕ) → g ≤ last_group p → group_address p g + group_blocks p g ≤ p.count
  ends_low g ok = group_ends (ground p) (ground_is p fit) g ok

  held_all : (g : ℕ) → g ≤ last_group p → headers_of p g + data_blocks p g ≤ group_blocks p g
  held_all g ok = (ground_is p fit).held g ok

  pub owner_header : (g n : ℕ) → g ≤ last_group p → n < headers_of p g → owner p (group_address p g + n) ≡ InGroup (group_address p g)
  owner_header g n ok low = owner_at g n ok (under n (headers_of p g) (data_blocks p g) (group_blocks p g) low (held_all g ok)) (ends_low g ok) ∙ cond-true _ _ _ (lt-ltb n (headers_of p g) low)
    where
      under : (n h d b : ℕ) → n < h → h + d ≤ b → n < b
      under n h d b low all = omega (arith, low, all)

  pub owner_end : (g n : ℕ) → g ≤ last_group p → headers_of p g + data_blocks p g ≤ n → n < group_blocks p g → owner p (group_address p g + n) ≡ Nobody
  owner_end g n ok far low =
      owner_at g n ok low (ends_low g ok)
      ∙ cond-false _ _ _ (le-ltb n (headers_of p g) (beyond n (headers_of p g) (data_blocks p g) far).0)
      ∙ cond-false _ _ _ (le-ltb (n - headers_of p g) (data_blocks p g) (beyond n (headers_of p g) (data_blocks p g) far).1)
    where
      beyond : (n h d : ℕ) → h + d ≤ n → (h ≤ n) × (d ≤ n - h)
      beyond n h d far = (omega (arith, far), omega (arith, far))

  pub owner_room : (g r : ℕ) → g ≤ last_group p → r < data_blocks p g → owner p (first_data p g + r) ≡ data_owner p g (data_before p g + r)
  owner_room g r ok low =
      ap (owner p) (shift (group_address p g) (headers_of p g) r)
      ∙ owner_at g (headers_of p g + r) ok (inside (headers_of p g) r (data_blocks p g) (group_blocks p g) low (held_all g ok)) (ends_low g ok)
      ∙ cond-false _ _ _ (le-ltb (headers_of p g + r) (headers_of p g) (more (headers_of p g) r))
      ∙ ap (λ n. if nat_lt n (data_blocks p g) then data_owner p g (data_before p g + n) else Nobody) (gone (headers_of p g) r)
      ∙ cond-true _ _ _ (lt-ltb r (data_blocks p g) low)
    where
      shift : (a h r : ℕ) → a + h + r ≡ a + (h + r)
      shift a h r = omega arith

      inside : (h r d b : ℕ) → r < d → h + d ≤ b → h + r < b
      inside h r d b low all = omega (arith, low, all)

      more : (h r : ℕ) → h ≤ h + r
      more h r = omega arith

  -- of the data blocks by their places among all
  pub owner_free : (g r : ℕ) → g ≤ last_group p → r < data_blocks p g → taken p ≤ data_before p g + r → owner p (first_data p g + r) ≡ Free (group_address p g)
  owner_free g r ok low free = owner_room g r ok low ∙ cond-false _ _ _ (le-ltb (data_before p g + r) (taken p) free)

  pub owner_taken : (k : ℕ) → k < taken p → owner p (data_address p k) ≡ use_owner p (use_of p k)
  owner_taken k kept = here (room_of p fit k (through k (taken p) (all_data p) kept fit.room))
    where
      through : (k t a : ℕ) → k < t → t ≤ a → k < a
      through k t a low le = omega (arith, low, le)

      here : IsRoom (ground p) k → owner p (data_address p k) ≡ use_owner p (use_of p k)
      here at =
          ap (λ n. owner p (data_address p n)) at.is ∙ ap (owner p) (address_at p fit at.group at.offset at.listed at.inside)
          ∙ owner_room at.group at.offset at.listed at.inside ∙ ap (data_owner p at.group) (sym at.is) ∙ cond-true _ _ _ (lt-ltb k (taken p) kept)

  pub in_all : (k : ℕ) → k < taken p → k < all_data p
  in_all k kept = through k (taken p) (all_data p) kept fit.room
    where
      through : (k t a : ℕ) → k < t → t ≤ a → k < a
      through k t a low le = omega (arith, low, le)

  pub owner_master : owner p (data_address p master_place) ≡ Master
  owner_master = owner_taken 0 (some_taken p)

  pub owner_root : owner p (data_address p root_place) ≡ Root
  owner_root = owner_taken 1 (two_taken p)

  pub owner_journals : owner p (data_address p (journals_place p)) ≡ Named (data_address p master_place) (codes "jindex")
  owner_journals = owner_taken (journals_place p) (journals_taken p) ∙ ap (use_owner p) (use_of_journals p)

  pub owner_leaf : (n : ℕ) → n < journal_leaves p → owner p (data_address p (leaf_place p n)) ≡ leaf_owner p n
  owner_leaf n low = owner_taken (leaf_place p n) (leaf_taken p n low) ∙ ap (use_owner p) (use_of_leaf p n low)

  pub owner_file : (i n : ℕ) → i ≤ p.journals → n < file_blocks (file_shape p i) → owner p (spot p i n) ≡ file_owner p i (part (file_shape p i) n)
  owner_file i n ok low = owner_taken (file_place p i + n) (file_taken p i n ok low) ∙ ap (use_owner p) (use_of_file p i n low) ∙ same i (part (file_shape p i) n)
    where
      same : (i : ℕ) (q : Part) → use_owner p (file_use i q) ≡ file_owner p i q
      same zero q = refl
      same (suc j) q = refl

  -- a used block is a taken one
  pub record IsTaken (b : ℕ) : Type 0 where
    pub place : ℕ
    pub low : place < taken p
    pub is : b ≡ data_address p place

  pub used_taken : (b : ℕ) → IsUsed (owner p b) → IsTaken b
  used_taken b used = each (zone b)
    where
      each : Zone p b → IsTaken b
      each (is_low le) = elim (subst IsUsed (owner_low b le) used) [ ]
      each (is_past high ge) = elim (subst IsUsed (owner_past b high ge) used) [ ]
      each (is_header g n ok inside e) = elim (subst IsUsed (ap (owner p) e ∙ owner_header g n ok inside) used) [ ]
      each (is_end g n ok far inside e) = elim (subst IsUsed (ap (owner p) e ∙ owner_end g n ok far inside) used) [ ]
      each (is_room g r ok inside e) = elim (cases_lt (data_before p g + r) (taken p)) [
        | inl l ↦ record { place = data_before p g + r; low = l; is = e ∙ sym (address_at p fit g r ok inside) }
        | inr ge ↦ elim (subst IsUsed (ap (owner p) e ∙ owner_free g r ok inside ge) used) [ ]
      ]
