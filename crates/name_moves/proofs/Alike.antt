-- However names go from a sound directory, what it is then is alike: its chains, how deep its table and leaves are, and its records, one behind another.
use Rattle.std.proofs.Common.{◌≡◌, ◌≢◌, ◌⊎◌, inl, inr, ℕ, zero, suc, ◌+◌, ◌-◌, ◌*◌, ◌^◌, ◌<◌, Bool, true, false, true≢false, List, [], ◌∷◌, ◌++◌, length, map, take, drop, None, Some, refl, sym, ap, ◌∙◌, subst, arith}
use Rattle.std.proofs.lemmas.Bool.{cases_Bool, cases_eq, cond-true, cond-false}
use Rattle.std.specs.Prelude.{◌==◌, ◌&&◌, if◌then◌else◌}
use Rattle.std.specs.Option.{option_map as mapped}
use Rattle.std.specs.List.{find}
use Rattle.crc_words.specs.Remainder.{crc32_of}
use Rattle.gfs2_layout.specs.Area.{Slot, IsRecordAt, first_named, has_name, slots_of}
use Rattle.gfs2_layout.specs.Bytes.{u16_at, u64_at}
use Rattle.gfs2_layout.specs.Cutting.{slot_from, slots_without, without}
use Rattle.gfs2_layout.specs.Holding.{Holding, InChain, Itself, Pointed, bytes_at, part_at}
use Rattle.gfs2_layout.specs.Inode.{dinode_in, depth_in, entry, has_hash_flag, first_hash, is_hashed_in, leaf_area, leaf_in, leaf_length, linear_area, top_bits}
use Rattle.gfs2_layout.specs.Records.{record_of, record_named, records_in}
use Rattle.gfs2_layout.specs.Structures.{dinode_of, is_directory, leaf_of}
use Rattle.gfs2_layout.specs.declared.dinode.Dinode.{Dinode}
use Rattle.gfs2_layout.specs.declared.leaf.Leaf.{Leaf}
use Rattle.gfs2_layout.proofs.CutAfter.{was_split}
use Rattle.gfs2_layout.proofs.Exchanged.{first_record}
use Rattle.growth_drafts.specs.Files.{with_cells}
use Rattle.image_model.proofs.Held.{none_some, some_same}
use Rattle.pointer_tables.specs.Directories.{IsInChain, chain_head, chain_next}
use Rattle.dinode_tree.proofs.Sound.{size_large}
use Rattle.leaf_areas.specs.Moving.{in_use, packed}
use Rattle.linear_dirs.specs.Exchanges.{uncounted}
use Rattle.hash_dirs.specs.Exchanging as hashed
use Rattle.hash_dirs.specs.Finding.{named_in}
use Rattle.hash_dirs.specs.Shown.{IsSound, index_for}
use Rattle.hash_dirs.specs.Walking.{leaf_on}
use Rattle.hash_dirs.proofs.Along.{chain_one, there_before}
use Rattle.hash_dirs.proofs.Anew.{KeepsTree, alike, content_after}
use Rattle.hash_dirs.proofs.Chained.{head_some, in_chain, index_low}
use Rattle.hash_dirs.proofs.Named.{find_some}
use Rattle.hash_steps.specs.Leaves.{has_room_for, leaf_depth}
use Rattle.name_drafts.specs.Need.{chain_of, first_depth, leaves_from, most_steps, name_need, need_in_hashed, need_in_linear, need_within}
use Rattle.name_moves.specs.Becoming.{HasItsBlocks, LosesAll, LosesName, NeedsAfter, NeedsJust, of_none, of_one}
use Rattle.name_moves.proofs.Loses.{all_sound, sound_lost}

-- ---- the first that passes a test parts a list in one way

abbrev first_or : {X : Type 0} → X → List X → X
first_or x [] = x
first_or x (y ∷ ys) = y

abbrev later_of : {X : Type 0} → List X → List X
later_of [] = []
later_of (y ∷ ys) = ys

module _ {X : Type 0} (test : X → Bool) where
  none_first : (x : X) (xs : List X) → find test (x ∷ xs) ≡ None → (test x ≡ false) × (find test xs ≡ None)
  none_first x xs none = by (test x) none
    where
      by : (t : Bool) → (if t then Some x else find test xs) ≡ None → (t ≡ false) × (find test xs ≡ None)
      by true e = absurd (none_some (sym e))
      by false e = (refl, e)

  split_once : (xs ys : List X) (s t : X) (a b : List X) → xs ++ s ∷ a ≡ ys ++ t ∷ b → find test xs ≡ None → find test ys ≡ None → test s ≡ true → test t ≡ true → (xs ≡ ys) × ((s ≡ t) × (a ≡ b))
  split_once [] [] s t a b e _ _ _ _ = (refl, (ap (first_or s) e, ap later_of e))
  split_once [] (y ∷ ys) s t a b e _ none has _ = absurd (true≢false (sym has ∙ ap test (ap (first_or s) e) ∙ (none_first y ys none).0))
  split_once (x ∷ xs) [] s t a b e none _ _ has = absurd (true≢false (sym has ∙ ap test (sym (ap (first_or s) e)) ∙ (none_first x xs none).0))
  split_once (x ∷ xs) (y ∷ ys) s t a b e none empty has it =
      let parts = split_once xs ys s t a b (ap later_of e) (none_first x xs none).1 (none_first y ys empty).1 has it in
      (λ i. ap (first_or x) e i ∷ parts.0 i, parts.1)

-- the first record of a name is cut from records alike
cut_alike : (name a b : List ℕ) (p q : ℕ) → slots_of a ≡ slots_of b → IsRecordAt a p → first_named name (slots_of (take p a)) ≡ None → first_named name (slots_of a) ≡ Some (slot_from p a)
    → IsRecordAt b q → first_named name (slots_of (take q b)) ≡ None → first_named name (slots_of b) ≡ Some (slot_from q b) → slots_without p a ≡ slots_without q b
cut_alike name a b p q same at_a none_a first_a at_b none_b first_b =
    let parts = split_once (has_name name) (slots_of (take p a)) (slots_of (take q b)) (slot_from p a) (slot_from q b) (slots_of (drop (p + u16_at 20 (drop p a)) a)) (slots_of (drop (q + u16_at 20 (drop q b)) b))
    (sym (was_split a p at_a) ∙ same ∙ was_split b q at_b) none_a none_b (find_some (has_name name) (slots_of a) (slot_from p a) first_a).1 (find_some (has_name name) (slots_of b) (slot_from q b) first_b).1 in
    λ i. without (parts.0 i) (parts.1.0 i) ++ parts.1.1 i

-- ---- directories alike

pub record IsAlike (h g : Holding) : Type 0 where
  pub size : g.size ≡ h.size
  pub count : g.count ≡ h.count
  pub own : g.own ≡ h.own
  pub hashed : is_hashed_in g ≡ is_hashed_in h
  pub height : (dinode_in g).height ≡ (dinode_in h).height
  pub depth : depth_in g ≡ depth_in h
  pub linear : is_hashed_in h ≡ false → slots_of (linear_area g) ≡ slots_of (linear_area h)
  pub entries : is_hashed_in h ≡ true → (i : ℕ) → entry g i ≡ entry h i
  pub leaves : is_hashed_in h ≡ true → (i place x : ℕ) → IsInChain h i place x → (leaf_in g x ≡ leaf_in h x) × (slots_of (leaf_area g x) ≡ slots_of (leaf_area h x))

alike_self : (h : Holding) → IsAlike h h
alike_self h = record { size = refl; count = refl; own = refl; hashed = refl; height = refl; depth = refl; linear = λ _. refl; entries = λ _ _. refl; leaves = λ _ _ _ _ _. (refl, refl) }

-- the chains are the same
chain_to : (h g : Holding) → IsAlike h g → is_hashed_in h ≡ true → (i place x : ℕ) → IsInChain h i place x → IsInChain g i place x
chain_to h g same is i _ _ (chain_head low some) = subst (IsInChain g i 0) (same.entries is i) (chain_head (subst (λ d. i < 2 ^ d) (sym same.depth) low) (λ none. some (sym (same.entries is i) ∙ none)))
chain_to h g same is i _ _ (chain_next place x chain more) =
    let next : (leaf_in g x).next ≡ (leaf_in h x).next = ap (λ (l : Leaf). l.next) (same.leaves is i place x chain).0 in
    subst (IsInChain g i (place + 1)) next (chain_next place x (chain_to h g same is i place x chain) (λ none. more (sym next ∙ none)))

-- ---- a name takes as many blocks in the one as in the other

module _ (h g : Holding) (same : IsAlike h g) where
  listed : is_hashed_in h ≡ true → (n i place x : ℕ) → IsInChain h i place x → map (λ y. slots_of (leaf_area g y)) (leaves_from n g x) ≡ map (λ y. slots_of (leaf_area h y)) (leaves_from n h x)
  unfolding leaves_from
  listed is zero i place x chain = refl
  listed is (suc n) i place x chain =
      let alike_here = same.leaves is i place x chain in
      let next : (leaf_in g x).next ≡ (leaf_in h x).next = ap (λ (l : Leaf). l.next) alike_here.0 in
      λ k. alike_here.1 k ∷ (ap (λ y. map (λ z. slots_of (leaf_area g z)) (if y == 0 then [] else leaves_from n g y)) next ∙ by ((leaf_in h x).next == 0) refl (λ more. listed is n i (place + 1) (leaf_in h x).next (chain_next place x chain more))) k
    where
      by : (t : Bool) → ((leaf_in h x).next == 0) ≡ t
          → ((leaf_in h x).next ≢ 0 → map (λ z. slots_of (leaf_area g z)) (leaves_from n g (leaf_in h x).next) ≡ map (λ z. slots_of (leaf_area h z)) (leaves_from n h (leaf_in h x).next))
          → map (λ z. slots_of (leaf_area g z)) (if t then [] else leaves_from n g (leaf_in h x).next) ≡ map (λ z. slots_of (leaf_area h z)) (if t then [] else leaves_from n h (leaf_in h x).next)
      by true e rest = refl
      by false e rest = rest (λ none. true≢false (sym (ap (λ y. y == 0) none) ∙ e))

  module _ (sound : IsSound h) (name : List ℕ) (hash : crc32_of name < 2 ^ 32) where
    index_same : index_for g name ≡ index_for h name
    index_same = ap (λ d. top_bits d (crc32_of name)) same.depth

    need_hashed : is_hashed_in h ≡ true → need_in_hashed g name ≡ need_in_hashed h name
    need_hashed is =
        let i = index_for h name in
        let head : IsInChain h i 0 (entry h i) = chain_head (index_low h sound is name hash) (head_some h sound is i (index_low h sound is name hash)) in
        let first : entry g (index_for g name) ≡ entry h i = ap (entry g) index_same ∙ same.entries is i in
        let deep : leaf_depth g (index_for g name) ≡ leaf_depth h i = ap (λ x. (leaf_in g x).depth) first ∙ ap (λ (l : Leaf). l.depth) (same.leaves is i 0 (entry h i) head).0 in
        let lists = (λ k. map (λ y. slots_of (leaf_area g y)) (leaves_from (same.count k) g (first k))) ∙ listed is h.count i 0 (entry h i) head in
        let chains : chain_of g name ≡ chain_of h name = λ k. record { size = same.size k; height = same.height k; table = same.depth k; depth = deep k; leaves = lists k } in
        ap (need_within most_steps (length name) (crc32_of name)) chains

    need_linear : is_hashed_in h ≡ false → need_in_linear g name ≡ need_in_linear h name
    need_linear un k =
        if has_room_for (length name) (same.linear un k) then 0
        else need_within most_steps (length name) (crc32_of name) (record { size = same.size k; height = 0; table = first_depth (same.size k); depth = 0; leaves = packed (same.size k - leaf_length) (in_use (same.linear un k)) ∷ [] }) + 1

    need_same : name_need g name ≡ name_need h name
    need_same = elim (cases_Bool (is_hashed_in h)) [
      | inl is ↦ cond-true (is_hashed_in g) _ _ (same.hashed ∙ is) ∙ need_hashed is ∙ sym (cond-true (is_hashed_in h) _ _ is)
      | inr un ↦ cond-false (is_hashed_in g) _ _ (same.hashed ∙ un) ∙ need_linear un ∙ sym (cond-false (is_hashed_in h) _ _ un)
    ]

-- ---- what a hashed directory keeps as a name goes

abbrev uncounted_flags : Dinode → Bool
uncounted_flags d = is_directory d && has_hash_flag d

module _ (h g : Holding) (name : List ℕ) (sound : IsSound h) (is : is_hashed_in h ≡ true) (kept : HasItsBlocks h g) (cut : hashed.IsCutFrom h g name) where
  leaf_part : part_at h cut.leaf ≡ Some (InChain (first_hash h (index_for h name)) cut.at_place)
  leaf_part = in_chain h sound is (index_for h name) cut.at_place cut.leaf cut.chain

  not_own : (hash place x : ℕ) → part_at h x ≡ Some (InChain hash place) → x ≢ h.own
  not_own hash place x at own = no (some_same (sym (sym at ∙ ap (part_at h) own ∙ sound.placed.own)))
    where
      no : Itself ≡ InChain hash place → ⊥
      no e = cc

  pointed_other : (x b k level first : ℕ) → part_at h x ≡ Some (Pointed b k level first) → (x ≢ cut.leaf) × (x ≢ h.own)
  pointed_other x b k level first at =
      ((λ e. no (some_same (sym at ∙ ap (part_at h) e ∙ leaf_part))), (λ e. never (some_same (sym at ∙ ap (part_at h) e ∙ sound.placed.own))))
    where
      no : {hash place : ℕ} → Pointed b k level first ≡ InChain hash place → ⊥
      no e = cc

      never : Pointed b k level first ≡ Itself → ⊥
      never e = cc

  dinode_same : (f : Dinode → Dinode) → ((d : Dinode) → f (uncounted d) ≡ f d) → f (dinode_in g) ≡ f (dinode_in h)
  dinode_same f through = sym (through (dinode_in g)) ∙ ap f cut.dinode ∙ through (dinode_in h)

  keeps : KeepsTree h g.cell
  unfolding dinode_in
  keeps = record {
    parts = cut.parts;
    dinode = ap (λ a. alike (dinode_of (bytes_at g a))) (sym kept.own) ∙ ap alike cut.dinode;
    behind = cut.behind;
    pointed = λ x b k level first at. let other = pointed_other x b k level first at in cut.others x other.0 other.1;
  }

  made_of : g ≡ with_cells h g.cell
  made_of = λ i. record { size = kept.size i; count = kept.count i; own = kept.own i; cell = g.cell }

  entry_after : (i : ℕ) → entry g i ≡ entry h i
  entry_after i = ap (λ z. entry z i) made_of ∙ ap (u64_at (8 * i)) (content_after h g.cell keeps sound.inode.tree sound.inode.fits (size_large h.size sound.block_size))

  depth_after : depth_in g ≡ depth_in h
  depth_after = ap (λ (d : Dinode). d.depth) cut.dinode

  height_after : (dinode_in g).height ≡ (dinode_in h).height
  height_after = ap (λ (d : Dinode). d.height) cut.dinode

  hashed_after : is_hashed_in g ≡ is_hashed_in h
  hashed_after = ap uncounted_flags cut.dinode

  bytes_after : (i place x : ℕ) → IsInChain h i place x → x ≢ cut.leaf → bytes_at g x ≡ bytes_at h x
  bytes_after i place x chain other = cut.others x other (not_own (first_hash h i) place x (in_chain h sound is i place x chain))

  next_after : (i place x : ℕ) → IsInChain h i place x → (leaf_in g x).next ≡ (leaf_in h x).next
  next_after i place x chain = elim (cases_eq x cut.leaf) [
    | inl same ↦ ap (λ y. (leaf_in g y).next) same ∙ ap (λ (l : Leaf). l.next) cut.head ∙ ap (λ y. (leaf_in h y).next) (sym same)
    | inr other ↦ ap (λ b. (leaf_of b).next) (bytes_after i place x chain other)
  ]

  chain_back : (i place x : ℕ) → IsInChain g i place x → IsInChain h i place x
  chain_back i _ _ (chain_head low some) = subst (IsInChain h i 0) (sym (entry_after i)) (chain_head (subst (λ d. i < 2 ^ d) depth_after low) (λ none. some (entry_after i ∙ none)))
  chain_back i _ _ (chain_next place x chain more) =
      let back = chain_back i place x chain in
      let next = next_after i place x back in
      subst (IsInChain h i (place + 1)) (sym next) (chain_next place x back (λ none. more (next ∙ none)))

-- ---- the same name goes from two alike

three : (a b : ℕ) → (a < b) ⊎ ((a ≡ b) ⊎ (b < a))
three a b = grind arith

module _ (h f g k : Holding) (name : List ℕ) (same : IsAlike h f) (sound : IsSound h) (sound_f : IsSound f) (lost : LosesName h g name) (lost_f : LosesName f k name) where
  module _ (is : is_hashed_in h ≡ true) where
    is_f : is_hashed_in f ≡ true
    is_f = same.hashed ∙ is

    cut : hashed.IsCutFrom h g name
    cut = (lost.in_hashed is).1.cut

    cut_f : hashed.IsCutFrom f k name
    cut_f = (lost_f.in_hashed is_f).1.cut

    at_index : index_for f name ≡ index_for h name
    at_index = ap (λ d. top_bits d (crc32_of name)) same.depth

    moved : (place x : ℕ) → IsInChain h (index_for h name) place x → IsInChain f (index_for f name) place x
    moved place x chain = subst (λ i. IsInChain f i place x) (sym at_index) (chain_to h f same is (index_for h name) place x chain)

    has_it : (a : List ℕ) (s : Slot) → first_named name (slots_of a) ≡ Some s → record_named (records_in a) name ≡ Some (record_of s)
    has_it a s first = sym (first_record a name) ∙ ap (mapped record_of) first

    -- an area that has as many records says the same of the name
    says_same : (a b : List ℕ) → slots_of a ≡ slots_of b → record_named (records_in a) name ≡ record_named (records_in b) name
    says_same a b e = sym (first_record a name) ∙ ap (λ s. mapped record_of (first_named name s)) e ∙ first_record b name

    slots_in : (place x : ℕ) → IsInChain h (index_for h name) place x → slots_of (leaf_area f x) ≡ slots_of (leaf_area h x)
    slots_in place x chain = (same.leaves is (index_for h name) place x chain).1

    leaf_same : cut_f.leaf ≡ cut.leaf
    leaf_same = elim (three cut.at_place cut_f.at_place) [
      | inl before ↦ absurd (none_some (sym (cut_f.none_before cut.at_place cut.leaf before (moved cut.at_place cut.leaf cut.chain))
          ∙ says_same (leaf_area f cut.leaf) (leaf_area h cut.leaf) (slots_in cut.at_place cut.leaf cut.chain) ∙ has_it (leaf_area h cut.leaf) (slot_from cut.place (leaf_area h cut.leaf)) cut.first))
      | inr (inl at) ↦ chain_one f (index_for f name) cut_f.at_place cut_f.leaf cut.leaf cut_f.chain (subst (λ p. IsInChain f (index_for f name) p cut.leaf) at (moved cut.at_place cut.leaf cut.chain))
      | inr (inr later) ↦
          let there = there_before h (index_for h name) cut.at_place cut.leaf cut.chain cut_f.at_place (omega (arith, later)) in
          let here = leaf_on h (index_for h name) cut_f.at_place in
          let one : here ≡ cut_f.leaf = chain_one f (index_for f name) cut_f.at_place here cut_f.leaf (moved cut_f.at_place here there) cut_f.chain in
          absurd (none_some (sym (cut.none_before cut_f.at_place here later there) ∙ says_same (leaf_area h here) (leaf_area f here) (sym (slots_in cut_f.at_place here there))
          ∙ ap (λ x. named_in f name x) one ∙ has_it (leaf_area f cut_f.leaf) (slot_from cut_f.place (leaf_area f cut_f.leaf)) cut_f.first))
    ]

    cut_slots : slots_of (leaf_area k cut_f.leaf) ≡ slots_of (leaf_area g cut.leaf)
    cut_slots = cut_f.slots
        ∙ cut_alike name (leaf_area f cut_f.leaf) (leaf_area h cut.leaf) cut_f.place cut.place (ap (λ x. slots_of (leaf_area f x)) leaf_same ∙ slots_in cut.at_place cut.leaf cut.chain)
        cut_f.at cut_f.no_first cut_f.first cut.at cut.no_first cut.first
        ∙ sym cut.slots

    cut_head : leaf_in k cut_f.leaf ≡ leaf_in g cut.leaf
    cut_head = cut_f.head ∙ ap (λ (l : Leaf). record l { entries = l.entries - 1 }) (ap (leaf_in f) leaf_same ∙ (same.leaves is (index_for h name) cut.at_place cut.leaf cut.chain).0) ∙ sym cut.head

    leaves_after : (i place x : ℕ) → IsInChain g i place x → (leaf_in k x ≡ leaf_in g x) × (slots_of (leaf_area k x) ≡ slots_of (leaf_area g x))
    leaves_after i place x chain_g =
        let chain = chain_back h g name sound is lost.kept cut i place x chain_g in
        let so = same.leaves is i place x chain in
        elim (cases_eq x cut.leaf) [
          | inl here ↦
              let there : x ≡ cut_f.leaf = here ∙ sym leaf_same in
              (ap (leaf_in k) there ∙ cut_head ∙ ap (leaf_in g) (sym here), ap (λ y. slots_of (leaf_area k y)) there ∙ cut_slots ∙ ap (λ y. slots_of (leaf_area g y)) (sym here))
          | inr other ↦
              let left = bytes_after h g name sound is lost.kept cut i place x chain other in
              let left_f = bytes_after f k name sound_f is_f lost_f.kept cut_f i place x (chain_to h f same is i place x chain) (λ e. other (e ∙ leaf_same)) in
              (ap leaf_of left_f ∙ so.0 ∙ sym (ap leaf_of left), ap (λ b. slots_of (drop leaf_length b)) left_f ∙ so.1 ∙ sym (ap (λ b. slots_of (drop leaf_length b)) left))
        ]

    alike_hashed : IsAlike g k
    alike_hashed = record {
      size = lost_f.kept.size ∙ same.size ∙ sym lost.kept.size;
      count = lost_f.kept.count ∙ same.count ∙ sym lost.kept.count;
      own = lost_f.kept.own ∙ same.own ∙ sym lost.kept.own;
      hashed = hashed_after f k name sound_f is_f lost_f.kept cut_f ∙ same.hashed ∙ sym (hashed_after h g name sound is lost.kept cut);
      height = height_after f k name sound_f is_f lost_f.kept cut_f ∙ same.height ∙ sym (height_after h g name sound is lost.kept cut);
      depth = depth_after f k name sound_f is_f lost_f.kept cut_f ∙ same.depth ∙ sym (depth_after h g name sound is lost.kept cut);
      linear = λ un. absurd (true≢false (sym (hashed_after h g name sound is lost.kept cut ∙ is) ∙ un));
      entries = λ _ i. entry_after f k name sound_f is_f lost_f.kept cut_f i ∙ same.entries is i ∙ sym (entry_after h g name sound is lost.kept cut i);
      leaves = λ _. leaves_after;
    }

  alike_linear : is_hashed_in h ≡ false → IsAlike g k
  alike_linear un =
      let un_f : is_hashed_in f ≡ false = same.hashed ∙ un in
      let one = lost.in_linear un in
      let two = lost_f.in_linear un_f in
      let un_g : is_hashed_in g ≡ false = ap uncounted_flags one.dinode ∙ un in
      record {
        size = lost_f.kept.size ∙ same.size ∙ sym lost.kept.size;
        count = lost_f.kept.count ∙ same.count ∙ sym lost.kept.count;
        own = lost_f.kept.own ∙ same.own ∙ sym lost.kept.own;
        hashed = ap uncounted_flags two.dinode ∙ same.hashed ∙ sym (ap uncounted_flags one.dinode);
        height = ap (λ (d : Dinode). d.height) two.dinode ∙ same.height ∙ sym (ap (λ (d : Dinode). d.height) one.dinode);
        depth = ap (λ (d : Dinode). d.depth) two.dinode ∙ same.depth ∙ sym (ap (λ (d : Dinode). d.depth) one.dinode);
        linear = λ _. two.cut.slots
            ∙ cut_alike name (linear_area f) (linear_area h) two.cut.place one.cut.place (same.linear un) two.cut.at two.cut.none_before two.cut.first one.cut.at one.cut.none_before one.cut.first
            ∙ sym one.cut.slots;
        entries = λ is _. absurd (true≢false (sym is ∙ un_g));
        leaves = λ is _ _ _ _. absurd (true≢false (sym is ∙ un_g));
      }

  alike_lost : IsAlike g k
  alike_lost = elim (cases_Bool (is_hashed_in h)) [ inl is ↦ alike_hashed is | inr un ↦ alike_linear un ]

-- ---- and so do several, one after another

all_alike : (names : List (List ℕ)) (h f g k : Holding) → IsAlike h f → IsSound h → IsSound f → LosesAll names h g → LosesAll names f k → IsAlike g k
all_alike _ h f _ _ same sound sound_f (of_none _) (of_none _) = same
all_alike _ h f g k same sound sound_f (of_one name names _ j _ first later) (of_one _ _ _ j_f _ first_f later_f) =
    all_alike names j j_f g k (alike_lost h f j j_f name same sound sound_f first first_f) (sound_lost h j name first sound) (sound_lost f j_f name first_f sound_f) later later_f

-- what is needed is one number
pub need_once : (names : List (List ℕ)) (h : Holding) (name : List ℕ) (a b : ℕ) → IsSound h → crc32_of name < 2 ^ 32 → NeedsAfter names h name a → NeedsAfter names h name b → a ≡ b
need_once names h name a b sound hash one two =
    let same = all_alike names h h one.without two.without (alike_self h) sound sound one.lost two.lost in
    one.is ∙ sym (need_same one.without two.without same (all_sound names h one.without one.lost sound) name hash) ∙ sym two.is

-- so many, neither more nor fewer
pub need_just : (names : List (List ℕ)) (h : Holding) (name : List ℕ) (need : ℕ) → IsSound h → crc32_of name < 2 ^ 32 → NeedsAfter names h name need → NeedsJust names h name need
need_just names h name need sound hash needs = record {
  needs = needs;
  each = λ without lost. need_once names h name need (name_need without name) sound hash needs (record { without = without; lost = lost; is = refl });
}
