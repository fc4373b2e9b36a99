-- The files of a new image are sound.
use Rattle.std.proofs.Common.{ℕ, zero, suc, ◌≡◌, ◌+◌, ◌-◌, ◌*◌, ◌/◌, ◌<◌, ◌≤◌, inl, inr, true, false, length, Option, None, Some, refl, sym, ap, ◌∙◌, subst, arith}
use Rattle.std.specs.Prelude.{◌%◌, ◌&&◌, is_some}
use Rattle.std.proofs.lemmas.Bool.{cases_lt, cond-false, true≢false}
use Rattle.std.proofs.lemmas.Bool.Decides.{nat_tests}
use Rattle.std.proofs.lemmas.Nat.{div-mul-add, mod-mul-add, div-add-mod', mod_below}
use Rattle.gfs2_layout.specs.Bytes.{u64_at}
use Rattle.gfs2_layout.specs.Structures.{dinode_of, is_directory, is_regular, dinode_length}
use Rattle.gfs2_layout.specs.declared.dinode.Dinode.{Dinode}
use Rattle.gfs2_layout.specs.Headers.{HasHeader}
use Rattle.image_model.specs.Image.{Image, Blocks}
use Rattle.gfs2_layout.specs.Inode.{dinode_in, height_in, has_hash_flag, is_directory_in, is_hashed_in, header_length, span, unit, pieces, content_count, EachPointer, IsChild, IsPointed, by_dinode, by_block, HasTree, Fits, IsInode, block_count}
use Rattle.gfs2_layout.specs.Holding.{Holding, Cell, Part, Itself, Pointed, InChain, cell_part, bytes_at, part_at}
use Rattle.image_model.specs.Owners.{Below, is_dinode, holding}
use Rattle.mkgfs2_tool.proofs.StandingGiven.{own_part, itself_own, pointed_owner, chained_owner, pointed_part, block_same, own_block}
use Rattle.mkgfs2_tool.specs.Groups.{data_address}
use Rattle.mkgfs2_tool.specs.Files.{dinode_pointers, block_pointers, content_blocks, height, level_blocks, level_start, file_blocks}
use Rattle.mkgfs2_tool.specs.Blocks.{new_block, dinode}
use Rattle.mkgfs2_tool.specs.Making.{IsFitting}
use Rattle.mkgfs2_tool.specs.declared.plan.Plan.{Plan}
use Rattle.mkgfs2_tool.proofs.StandingGiven.{Known}
use Rattle.mkgfs2_tool.proofs.StandingCounts.{count_images}
use Rattle.mkgfs2_tool.proofs.StandingShapes.{IsBelow, Piece, is_top, is_below, piece, above, first_on, first_inside, top_narrow, top_room, height_low, inside_file, wide}
use Rattle.mkgfs2_tool.proofs.StandingPlan.{apart_addresses}
use Rattle.mkgfs2_tool.proofs.StandingOwners.{file_place, file_shape, file_bytes, spot, up_block, up_pointer, below_owner, owner, file_some, file_taken, in_all}
use Rattle.mkgfs2_tool.proofs.StandingFiles.{file_low, file_number, file_dinode, file_dinode_is, spot_low, top_pointers, inner_block}
use Rattle.mkgfs2_tool.proofs.StandingWhose.{owner_below, owner_top, same_file, file_apart_journals, not_chained, IsBelowOf, below_of}

abbrev pub image : Plan → Blocks → Image
image p at = record { size = p.size; count = p.count; at = at }

-- the blocks below the count are those of a new image, and each is whole
pub record AreMade (p : Plan) (at : Blocks) : Type 0 where
  pub is : (b : ℕ) → b < p.count → at b ≡ new_block p b
  pub whole : (b : ℕ) → b < p.count → length (at b) ≡ p.size

abbrev pub held : Plan → Blocks → ℕ → Holding
held p at a = holding (image p at) (owner p) a

pub below_1 : (a b c d e a' b' c' d' e' : ℕ) → Below a b c d e ≡ Below a' b' c' d' e' → a ≡ a'
below_1 a b c d e a' b' c' d' e' s = cc

below_2 : (a b c d e a' b' c' d' e' : ℕ) → Below a b c d e ≡ Below a' b' c' d' e' → b ≡ b'
below_2 a b c d e a' b' c' d' e' s = cc

below_3 : (a b c d e a' b' c' d' e' : ℕ) → Below a b c d e ≡ Below a' b' c' d' e' → c ≡ c'
below_3 a b c d e a' b' c' d' e' s = cc

below_4 : (a b c d e a' b' c' d' e' : ℕ) → Below a b c d e ≡ Below a' b' c' d' e' → d ≡ d'
below_4 a b c d e a' b' c' d' e' s = cc

below_5 : (a b c d e a' b' c' d' e' : ℕ) → Below a b c d e ≡ Below a' b' c' d' e' → e ≡ e'
below_5 a b c d e a' b' c' d' e' s = cc

pub cell_some : (o : Option Cell) (q : Part) → cell_part o ≡ Some q → is_some o ≡ true
cell_some None q e = cc
cell_some (Some c) q e = refl

pub some_cell : (o : Option Cell) → is_some o ≡ true → (q : Part) × (cell_part o ≡ Some q)
some_cell None e = cc
some_cell (Some c) e = (c.part, refl)

module _ (p : Plan) (fit : IsFitting p) (known : Known p) (at : Blocks) (made : AreMade p at) (i : ℕ) (ok : i ≤ p.journals) where
  abbrev a : ℕ
  a = spot p i 0

  abbrev h : Holding
  h = held p at a

  pub file_own : is_dinode (owner p a) ≡ true
  file_own = ap is_dinode (owner_top p fit known i ok)

  pub own_bytes : bytes_at h a ≡ new_block p a
  own_bytes = own_block known.given (image p at) (owner p) a file_own ∙ made.is a (spot_low p fit known i 0 ok (file_some p i))

  pub file_dinode_in : dinode_in h ≡ file_dinode p i
  unfolding dinode_in
  file_dinode_in = ap dinode_of own_bytes ∙ (file_dinode_is p fit known i ok).is

  pub file_plain : is_directory_in h ≡ false
  unfolding dinode
  file_plain = ap is_directory file_dinode_in

  pub file_regular : is_regular (dinode_in h) ≡ true
  unfolding dinode
  file_regular = ap is_regular file_dinode_in

  unhashed : is_hashed_in h ≡ false
  unhashed = ap (λ v. v && has_hash_flag (dinode_in h)) file_plain

  pub file_height : height_in h ≡ height (file_shape p i)
  unfolding dinode
  file_height = ap (λ (d : Dinode). d.height) file_dinode_in

  pub file_size : (dinode_in h).size ≡ file_bytes p i
  unfolding dinode
  file_size = ap (λ (d : Dinode). d.size) file_dinode_in

  links_is : (dinode_in h).nlink ≡ 1
  unfolding dinode
  links_is = ap (λ (d : Dinode). d.nlink) file_dinode_in

  pub file_number_is : (dinode_in h).num.number ≡ file_number i
  unfolding dinode
  file_number_is = ap (λ (d : Dinode). d.num.number) file_dinode_in

  address_is : (dinode_in h).num.address ≡ a
  unfolding dinode
  address_is = ap (λ (d : Dinode). d.num.address) file_dinode_in ∙ ap (data_address p) (none (file_place p i))
    where
      none : (n : ℕ) → n ≡ n + 0
      none n = omega arith

  blocks_is : (dinode_in h).blocks ≡ file_blocks (file_shape p i)
  unfolding dinode
  blocks_is = ap (λ (d : Dinode). d.blocks) file_dinode_in

  pub unit_is : unit h ≡ p.size
  unit_is = cond-false _ _ _ file_plain

  pub count_is : content_count h ≡ content_blocks (file_shape p i)
  count_is = λ t. pieces (file_size t) (unit_is t)

  -- ---- its blocks

  pub part_below_is : (l x : ℕ) → IsBelow (file_shape p i) l x
      → part_at h (spot p i (level_start (file_shape p i) l + x)) ≡ Some (Pointed (spot p i (up_block p i l x)) (up_pointer p l x) (height (file_shape p i) - l) (x * span p.size (height (file_shape p i) - l)))
  part_below_is l x is = pointed_part known.given (image p at) (owner p) a (spot p i (level_start (file_shape p i) l + x)) (spot p i (up_block p i l x)) (up_pointer p l x) (height (file_shape p i) - l) (x * span p.size (height (file_shape p i) - l)) (owner_below p fit known i l x ok is)

  pub bytes_below : (l x : ℕ) → IsBelow (file_shape p i) l x → bytes_at h (spot p i (level_start (file_shape p i) l + x)) ≡ new_block p (spot p i (level_start (file_shape p i) l + x))
  bytes_below l x is =
      block_same known.given (image p at) (owner p) a (spot p i (level_start (file_shape p i) l + x)) (Pointed (spot p i (up_block p i l x)) (up_pointer p l x) (height (file_shape p i) - l) (x * span p.size (height (file_shape p i) - l))) (part_below_is l x is)
      ∙ made.is (spot p i (level_start (file_shape p i) l + x)) (spot_low p fit known i (level_start (file_shape p i) l + x) ok (inside_file (file_shape p i) (file_low p fit known i) l x is))

  -- a part of the file is one of its blocks below the dinode
  pub record IsPartOf (y b k level first : ℕ) : Type 0 where
    pub l : ℕ
    pub x : ℕ
    pub below : IsBelow (file_shape p i) l x
    pub is : y ≡ spot p i (level_start (file_shape p i) l + x)
    pub up : spot p i (up_block p i l x) ≡ b
    pub by : up_pointer p l x ≡ k
    pub level_is : height (file_shape p i) - l ≡ level
    pub first_is : x * span p.size (height (file_shape p i) - l) ≡ first

  part_from : (y b k level first n l x : ℕ) → n ≡ i → IsBelow (file_shape p n) l x → y ≡ spot p n (level_start (file_shape p n) l + x) → below_owner p n l x ≡ Below a b k level first → IsPartOf y b k level first
  part_from y b k level first n l x e below is owned =
      let own : below_owner p i l x ≡ Below a b k level first = subst (λ m. below_owner p m l x ≡ Below a b k level first) e owned in
      record {
        l = l;
        x = x;
        below = subst (λ m. IsBelow (file_shape p m) l x) e below;
        is = subst (λ m. y ≡ spot p m (level_start (file_shape p m) l + x)) e is;
        up = below_2 _ _ _ _ _ _ _ _ _ _ own;
        by = below_3 _ _ _ _ _ _ _ _ _ _ own;
        level_is = below_4 _ _ _ _ _ _ _ _ _ _ own;
        first_is = below_5 _ _ _ _ _ _ _ _ _ _ own;
      }

  pub part_of : (y b k level first : ℕ) → part_at h y ≡ Some (Pointed b k level first) → IsPartOf y b k level first
  part_of y b k level first e = from (below_of p fit known y a b k level first (pointed_owner known.given (image p at) (owner p) a y b k level first e))
    where
      from : IsBelowOf p fit known y a b k level first → IsPartOf y b k level first
      from q = part_from y b k level first q.file q.l q.x (same_file p fit known q.file i q.ok ok (below_1 _ _ _ _ _ _ _ _ _ _ q.owned)) q.at q.is q.owned

  no_chain : (y hash place : ℕ) → part_at h y ≡ Some (InChain hash place) → ⊥
  no_chain y hash place e = not_chained p fit known y a hash place (λ same. absurd (file_apart_journals p fit known i ok same)) (chained_owner known.given (image p at) (owner p) a y hash place e)

  spot_of : (l x : ℕ) → IsBelow (file_shape p i) l x → spot p i (level_start (file_shape p i) l + x) < p.count
  spot_of l x is = spot_low p fit known i (level_start (file_shape p i) l + x) ok (inside_file (file_shape p i) (file_low p fit known i) l x is)

  part_low : (y : ℕ) (q : Part) → part_at h y ≡ Some q → y < p.count
  part_low y Itself e = subst (λ n. n < p.count) (sym (itself_own known.given (image p at) (owner p) a y e)) (spot_low p fit known i 0 ok (file_some p i))
  part_low y (Pointed b k level first) e = here (part_of y b k level first e)
    where
      here : IsPartOf y b k level first → y < p.count
      here q = subst (λ n. n < p.count) (sym q.is) (spot_of q.l q.x q.below)
  part_low y (InChain hash place) e = absurd (no_chain y hash place e)

  -- ---- pointers

  top_child : (k : ℕ) → IsBelow (file_shape p i) 1 k → (level : ℕ) → height (file_shape p i) - 1 ≡ level → IsChild h a k level (k * span p.size level) (spot p i (1 + k))
  top_child k is level e = record {
    part = part_below_is 1 k is ∙ ap (λ n. Some (Pointed a k n (k * span p.size n))) e;
    within = subst (λ n. k * span p.size level < n) (sym count_is) (subst (λ n. k * span p.size n < content_blocks (file_shape p i)) e (first_inside (file_shape p i) (file_low p fit known i) 1 k is));
  }

  taller : (n level : ℕ) → n ≡ suc level → (1 ≤ n) × (n - 1 ≡ level)
  taller n level e = (omega (arith, e), omega (arith, e))

  tree_top : (level : ℕ) → height_in h ≡ suc level → EachPointer h dinode_length h.own (λ k c. IsChild h h.own k level (k * span h.size level) c)
  tree_top level e k inside some =
      let high = taller (height (file_shape p i)) level (sym file_height ∙ e) in
      let pointers = top_pointers p fit known i ok high.0 in
      elim (cases_lt k (level_blocks (file_shape p i) 1)) [
        | inl few ↦ subst (IsChild h a k level (k * span p.size level)) (sym (ap (u64_at (232 + 8 * k)) own_bytes ∙ pointers.there k inside few)) (top_child k (record { some = omega arith; low = high.0; inside = few }) level high.1)
        | inr far ↦ absurd (some (ap (u64_at (232 + 8 * k)) own_bytes ∙ pointers.none k inside far))
      ]

  turn : (u v k : ℕ) → u + (v + k) ≡ u + v + k
  turn u v k = omega arith

  child_low : (v k n : ℕ) → k < n - v → v + k < n
  child_low v k n few = omega (arith, few)

  inner_child : (l x j level first : ℕ) → IsBelow (file_shape p i) (suc l) x → height (file_shape p i) - suc l ≡ suc level → x * span p.size (height (file_shape p i) - suc l) ≡ first
      → j < block_pointers p.size → j < level_blocks (file_shape p i) (suc (suc l)) - x * block_pointers p.size
      → IsChild h (spot p i (level_start (file_shape p i) (suc l) + x)) j level (first + j * span p.size level) (spot p i (level_start (file_shape p i) (suc (suc l)) + x * block_pointers p.size + j))
  inner_child l x j level first is e g inside few =
      let low = lower (height (file_shape p i)) (suc l) level e in
      let child : IsBelow (file_shape p i) (suc (suc l)) (x * block_pointers p.size + j) = record { some = omega arith; low = low.0; inside = child_low (x * block_pointers p.size) j (level_blocks (file_shape p i) (suc (suc l))) few } in
      let begins : (x * block_pointers p.size + j) * span p.size (height (file_shape p i) - suc (suc l)) ≡ first + j * span p.size level =
      first_on (file_shape p i) (file_low p fit known i) (suc l) x j low.0 ∙ (λ t. g t + j * span p.size (low.1 t)) in
      record {
        part = ap (λ n. part_at h (spot p i n)) (sym (turn (level_start (file_shape p i) (suc (suc l))) (x * block_pointers p.size) j)) ∙ part_below_is (suc (suc l)) (x * block_pointers p.size + j) child
            ∙ (λ t. Some (Pointed (spot p i (level_start (file_shape p i) (suc l) + div-mul-add x (block_pointers p.size) j inside t)) (mod-mul-add x (block_pointers p.size) j inside t) (low.1 t) (begins t)));
        within = subst (λ n. first + j * span p.size level < n) (sym count_is) (subst (λ n. n < content_blocks (file_shape p i)) begins (first_inside (file_shape p i) (file_low p fit known i) (suc (suc l)) (x * block_pointers p.size + j) child));
      }
    where
      lower : (n l level : ℕ) → n - l ≡ suc level → (l < n) × (n - suc l ≡ level)
      lower n l level e = (omega (arith, e), omega (arith, e))

  inner_at : (l x level first : ℕ) → IsBelow (file_shape p i) l x → height (file_shape p i) - l ≡ suc level → x * span p.size (height (file_shape p i) - l) ≡ first
      → EachPointer h header_length (spot p i (level_start (file_shape p i) l + x)) (λ j c. IsChild h (spot p i (level_start (file_shape p i) l + x)) j level (first + j * span p.size level) c)
  inner_at zero x level first is e g j inside some = absurd (omega (arith, is.some))
  inner_at (suc l) x level first is e g j inside some =
      let pointers = (inner_block p fit known i (suc l) x ok is (lower (height (file_shape p i)) (suc l) level e)).pointers in
      elim (cases_lt j (level_blocks (file_shape p i) (suc (suc l)) - x * block_pointers p.size)) [
        | inl few ↦ subst (IsChild h (spot p i (level_start (file_shape p i) (suc l) + x)) j level (first + j * span p.size level)) (sym (ap (u64_at (24 + 8 * j)) (bytes_below (suc l) x is) ∙ pointers.there j inside few))
            (inner_child l x j level first is e g inside few)
        | inr far ↦ absurd (some (ap (u64_at (24 + 8 * j)) (bytes_below (suc l) x is) ∙ pointers.none j inside far))
      ]
    where
      lower : (n l level : ℕ) → n - l ≡ suc level → l < n
      lower n l level e = omega (arith, e)

  tree_inner : (y b k level first : ℕ) → part_at h y ≡ Some (Pointed b k (suc level) first) → EachPointer h header_length y (λ j c. IsChild h y j level (first + j * span h.size level) c)
  tree_inner y b k level first e = here (part_of y b k (suc level) first e)
    where
      here : IsPartOf y b k (suc level) first → EachPointer h header_length y (λ j c. IsChild h y j level (first + j * span h.size level) c)
      here q = subst (λ z. EachPointer h header_length z (λ j c. IsChild h z j level (first + j * span p.size level) c)) (sym q.is) (inner_at q.l q.x level first q.below q.level_is q.first_is)

  -- ---- what a part tells is so

  pointed_first : (y x level : ℕ) → IsBelow (file_shape p i) 1 x → y ≡ spot p i (1 + x) → height (file_shape p i) - 1 ≡ level → (first : ℕ) → x * span p.size (height (file_shape p i) - 1) ≡ first
      → IsPointed h y a x level first
  pointed_first y x level is e g first f = by_dinode refl (file_height ∙ taller_is (height (file_shape p i)) level is.low g) narrow
      (ap (u64_at (232 + 8 * x)) own_bytes ∙ (top_pointers p fit known i ok is.low).there x narrow is.inside ∙ sym e)
      (sym f ∙ ap (λ n. x * span p.size n) g)
    where
      narrow : x < dinode_pointers p.size
      narrow = top_narrow (file_shape p i) (file_low p fit known i) x is

      taller_is : (n level : ℕ) → 1 ≤ n → n - 1 ≡ level → n ≡ suc level
      taller_is n level some e = omega (arith, some, e)

  pointed_later : (y l x level first : ℕ) → IsBelow (file_shape p i) (suc (suc l)) x → y ≡ spot p i (level_start (file_shape p i) (suc (suc l)) + x) → height (file_shape p i) - suc (suc l) ≡ level
      → x * span p.size (height (file_shape p i) - suc (suc l)) ≡ first → IsPointed h y (spot p i (level_start (file_shape p i) (suc l) + x / block_pointers p.size)) (x % block_pointers p.size) level first
  pointed_later y l x level first is e g f =
      by_block (spot p i (up_block p i (suc l) (x / block_pointers p.size))) (up_pointer p (suc l) (x / block_pointers p.size)) (x / block_pointers p.size * span p.size (height (file_shape p i) - suc l))
      (part_below_is (suc l) (x / block_pointers p.size) over ∙ ap (λ n. Some (Pointed (spot p i (up_block p i (suc l) (x / block_pointers p.size))) (up_pointer p (suc l) (x / block_pointers p.size)) n (x / block_pointers p.size * span p.size (height (file_shape p i) - suc l)))) (taller_is (height (file_shape p i)) l level is.low g))
      inside
      (ap (u64_at (24 + 8 * (x % block_pointers p.size))) (bytes_below (suc l) (x / block_pointers p.size) over)
      ∙ (inner_block p fit known i (suc l) (x / block_pointers p.size) ok over is.low).pointers.there (x % block_pointers p.size) inside
      (rest (level_blocks (file_shape p i) (suc (suc l))) (x / block_pointers p.size * block_pointers p.size) (x % block_pointers p.size) x (div-add-mod' x (block_pointers p.size)) is.inside)
      ∙ ap (spot p i) (again (level_start (file_shape p i) (suc (suc l))) (x / block_pointers p.size * block_pointers p.size) (x % block_pointers p.size) x (div-add-mod' x (block_pointers p.size))) ∙ sym e)
      (sym f ∙ ap (λ n. n * span p.size (height (file_shape p i) - suc (suc l))) (sym (div-add-mod' x (block_pointers p.size)))
      ∙ first_on (file_shape p i) (file_low p fit known i) (suc l) (x / block_pointers p.size) (x % block_pointers p.size) is.low
      ∙ ap (λ n. x / block_pointers p.size * span p.size (height (file_shape p i) - suc l) + x % block_pointers p.size * span p.size n) g)
    where
      over : IsBelow (file_shape p i) (suc l) (x / block_pointers p.size)
      over = above (file_shape p i) (file_low p fit known i) (suc l) x (omega arith) is

      inside : x % block_pointers p.size < block_pointers p.size
      inside = mod_below x (block_pointers p.size) (wide (file_shape p i) (file_low p fit known i))

      taller_is : (n l level : ℕ) → suc (suc l) ≤ n → n - suc (suc l) ≡ level → n - suc l ≡ suc level
      taller_is n l level some e = omega (arith, some, e)

      rest : (n q r x : ℕ) → q + r ≡ x → x < n → r < n - q
      rest n q r x e few = omega (arith, e, few)

      again : (s q r x : ℕ) → q + r ≡ x → s + q + r ≡ s + x
      again s q r x e = omega (arith, e)

  tree_pointed : (y b k level first : ℕ) → part_at h y ≡ Some (Pointed b k level first) → IsPointed h y b k level first
  tree_pointed y b k level first e = here (part_of y b k level first e)
    where
      by_level : (l x : ℕ) → IsBelow (file_shape p i) l x → y ≡ spot p i (level_start (file_shape p i) l + x) → height (file_shape p i) - l ≡ level → x * span p.size (height (file_shape p i) - l) ≡ first
          → IsPointed h y (spot p i (up_block p i l x)) (up_pointer p l x) level first
      by_level zero x is s g f = absurd (omega (arith, is.some))
      by_level (suc zero) x is s g f = pointed_first y x level is s g first f
      by_level (suc (suc l)) x is s g f = pointed_later y l x level first is s g f

      here : IsPartOf y b k level first → IsPointed h y b k level first
      here q = subst (λ n. IsPointed h y n k level first) q.up (subst (λ n. IsPointed h y (spot p i (up_block p i q.l q.x)) n level first) q.by (by_level q.l q.x q.below q.is q.level_is q.first_is))

  tree_below : (y b k level first : ℕ) → part_at h y ≡ Some (Pointed b k level first) → level < height_in h
  tree_below y b k level first e = here (part_of y b k level first e)
    where
      lower : (n l level m : ℕ) → 1 ≤ l → l ≤ n → n - l ≡ level → m ≡ n → level < m
      lower n l level m some low e same = omega (arith, some, low, e, same)

      here : IsPartOf y b k level first → level < height_in h
      here q = lower (height (file_shape p i)) q.l level (height_in h) q.below.some q.below.low q.level_is file_height

  tree_indirect : (y b k level first : ℕ) → part_at h y ≡ Some (Pointed b k (suc level) first) → HasHeader 5 500 (bytes_at h y)
  tree_indirect y b k level first e = here (part_of y b k (suc level) first e)
    where
      lower : (n l level : ℕ) → n - l ≡ suc level → l < n
      lower n l level e = omega (arith, e)

      here : IsPartOf y b k (suc level) first → HasHeader 5 500 (bytes_at h y)
      here q = subst (λ z. HasHeader 5 500 (bytes_at h z)) (sym q.is)
          (subst (HasHeader 5 500) (sym (bytes_below q.l q.x q.below)) (inner_block p fit known i q.l q.x ok q.below (lower (height (file_shape p i)) q.l level q.level_is)).header)

  file_tree : HasTree h
  file_tree = record {
    top = tree_top;
    inner = tree_inner;
    pointed = tree_pointed;
    below = tree_below;
    indirect = tree_indirect;
    table = λ y b k first dir e. absurd (true≢false (sym dir ∙ file_plain));
  }

  -- ---- its size

  stuffed_size : height (file_shape p i) ≡ 0 → file_bytes p i ≤ p.size - 232
  stuffed_size e = grind (arith, nat_tests)

  file_fits : Fits h
  file_fits = record {
    low = few (height_in h) (height (file_shape p i)) file_height (height_low (file_shape p i) (file_low p fit known i));
    stuffed = λ e. inside (dinode_in h).size (file_bytes p i) p.size file_size (stuffed_size (sym file_height ∙ e)) (omega (arith, fit.plan.size));
    under = λ level e. under_at level (sym file_height ∙ e);
  }
    where
      few : (m n : ℕ) → m ≡ n → n ≤ 3 → m ≤ 10
      few m n e low = omega (arith, e, low)

      inside : (m n s : ℕ) → m ≡ n → n ≤ s - 232 → 512 ≤ s → 232 + m ≤ s
      inside m n s e low large = omega (arith, e, low, large)

      under_at : (level : ℕ) → height (file_shape p i) ≡ suc level → content_count h ≤ dinode_pointers p.size * span p.size level
      under_at level e =
          let high = taller (height (file_shape p i)) level e in
          subst (λ n. n ≤ dinode_pointers p.size * span p.size level) (sym count_is) (subst (λ n. content_blocks (file_shape p i) ≤ dinode_pointers p.size * span p.size n) high.1 (top_room (file_shape p i) (file_low p fit known i) high.0))

  -- ---- its blocks are counted

  spot_apart : (n k : ℕ) → n < file_blocks (file_shape p i) → k < file_blocks (file_shape p i) → spot p i n ≡ spot p i k → n ≡ k
  spot_apart n k inside inside' e =
      cancel (file_place p i) n k (apart_addresses p fit (file_place p i + n) (file_place p i + k) (in_all p fit (file_place p i + n) (file_taken p i n ok inside)) (in_all p fit (file_place p i + k) (file_taken p i k ok inside')) e)
    where
      cancel : (a n k : ℕ) → a + n ≡ a + k → n ≡ k
      cancel a n k e = omega (arith, e)

  has_block : (n : ℕ) → n < file_blocks (file_shape p i) → is_some (h.cell (spot p i n)) ≡ true
  has_block n inside = each (piece (file_shape p i) (file_low p fit known i) n inside)
    where
      each : Piece (file_shape p i) n → is_some (h.cell (spot p i n)) ≡ true
      each (is_top e) = cell_some (h.cell (spot p i n)) Itself (ap (λ m. part_at h (spot p i m)) e ∙ own_part known.given (image p at) (owner p) a file_own)
      each (is_below l x below e) =
          cell_some (h.cell (spot p i n)) (Pointed (spot p i (up_block p i l x)) (up_pointer p l x) (height (file_shape p i) - l) (x * span p.size (height (file_shape p i) - l)))
          (ap (λ m. part_at h (spot p i m)) e ∙ part_below_is l x below)

  only_blocks : (b : ℕ) → is_some (h.cell b) ≡ true → (n : ℕ) × (n < file_blocks (file_shape p i)) × (b ≡ spot p i n)
  only_blocks b e = let c = some_cell (h.cell b) e in by_part c.0 c.1
    where
      from_part : (d k level first : ℕ) → IsPartOf b d k level first → (n : ℕ) × (n < file_blocks (file_shape p i)) × (b ≡ spot p i n)
      from_part d k level first q = (level_start (file_shape p i) q.l + q.x, inside_file (file_shape p i) (file_low p fit known i) q.l q.x q.below, q.is)

      by_part : (q : Part) → part_at h b ≡ Some q → (n : ℕ) × (n < file_blocks (file_shape p i)) × (b ≡ spot p i n)
      by_part Itself g = (0, file_some p i, itself_own known.given (image p at) (owner p) a b g)
      by_part (Pointed d k level first) g = from_part d k level first (part_of b d k level first g)
      by_part (InChain hash place) g = absurd (no_chain b hash place g)

  blocks_counted : block_count h ≡ file_blocks (file_shape p i)
  unfolding block_count
  blocks_counted = count_images (file_blocks (file_shape p i)) p.count (spot p i) (λ b. is_some (h.cell b)) (λ n inside. spot_low p fit known i n ok inside) spot_apart has_block only_blocks

  pub file_sound : IsInode h
  file_sound = record {
    whole = λ b q e. ap length (block_same known.given (image p at) (owner p) a b q e) ∙ made.whole b (part_low b q e);
    header = subst (HasHeader 4 400) (sym own_bytes) (file_dinode_is p fit known i ok).header;
    address = address_is;
    number = λ e. number_some i (sym file_number_is ∙ e);
    mode = inr file_regular;
    links = λ e. links_is;
    fits = file_fits;
    tree = file_tree;
    linear = λ e. absurd (true≢false (sym e ∙ file_plain));
    hashed = λ e. absurd (true≢false (sym e ∙ unhashed));
    leafless = λ e. no_chain;
    blocks = blocks_is ∙ sym blocks_counted;
  }
    where
      number_some : (n : ℕ) → file_number n ≡ 0 → ⊥
      number_some zero e = absurd (omega (arith, e))
      number_some (suc j) e = absurd (omega (arith, e))
