-- The names of journals, and the records that have them.
use Rattle.std.proofs.Common.{◌≡◌, ◌⊎◌, inl, inr, ℕ, Bool, true, false, List, [], ◌∷◌, ◌++◌, ◌+◌, ◌≤◌, Some, length, drop, take, refl, sym, ap, subst, ◌∙◌, arith}
use Rattle.std.specs.Prelude.{Contains, IsTrue, codes, flat_map, nat_eq, slice_get}
use Rattle.std.specs.Cmp.Lexicographic.{pointwise, same_text}
use Rattle.std.specs.Fmt.{decimal}
use Rattle.std.proofs.lemmas.Bool.{cond-true}
use Rattle.std.proofs.lemmas.List.{take-append-drop}
use Rattle.gfs2_layout.specs.Area.{IsShown, Slot, name_of}
use Rattle.gfs2_layout.specs.Holding.{Holding, InChain, bytes_at}
use Rattle.gfs2_layout.specs.Inode.{IsLeaf, is_hashed_in, leaf_area, leaves_of, records_of}
use Rattle.gfs2_layout.specs.Records.{Record, is_dots, record_of, records_in}
use Rattle.gfs2_layout.specs.Structures.{is_in_use}
use Rattle.gfs2_layout.specs.declared.dirent.Dirent.{Dirent}
use Rattle.glock_names.specs.Views.{Seen}
use Rattle.hash_dirs.specs.Shown.{IsSound}
use Rattle.hash_dirs.proofs.Chained.{cell_some, in_leaves, of_leaves, rules}
use Rattle.linear_dirs.specs.Reading.{told_in}
use Rattle.image_model.specs.Claims.{IsJindex, LeadsTo, every}
use Rattle.image_model.specs.Image.{Image}
use Rattle.image_model.specs.Journals.{journal_name}
use Rattle.image_model.specs.Owners.{Owners, holding}
use Rattle.image_model.specs.Stands.{Layout}
use Rattle.image_model.specs.SystemFiles.{IsSystemFile}
use Rattle.image_model.proofs.Facts.{has_jindex, is_directory_row, jindex_directory, jindex_is, leads_child_of}
use Rattle.image_model.proofs.Held.{some_same}
use Rattle.image_model.proofs.Members.{contained, from_flat_map, in_either, in_flat_map, in_left, in_right, is_in}
use Rattle.image_model.proofs.Reach.{inode_claim, leading, record_claim}
use Rattle.gfs2_layout.specs.Inode.{is_directory_in}
use Rattle.image_journals.specs.Adding.{AreAdded, IsJournalFile, IsLeafOf, IsNamedAmong}
use Rattle.image_journals.specs.Shown.{ShowsFrame, jindex}
use Rattle.image_journals.specs.Sound.{IsDirectoryIn}
use Rattle.image_journals.proofs.Adding.{IsAmongFirst, added_as, added_both, added_one, contained_at, contained_by, parted}
use Rattle.image_journals.proofs.Held as held
use Rattle.image_journals.proofs.Names.{child_is}

-- ---- records

pub named_none : (x : ℕ) → IsNamedAmong [] x → ⊥
named_none x named = is_in named.0 [] named.1

named_more : (front more : List Record) (x : ℕ) → IsNamedAmong (front ++ more) x → IsNamedAmong front x ⊎ IsNamedAmong more x
named_more front more x named = elim (in_either named.0 front more (is_in named.0 (front ++ more) named.1)) [
  | inl at ↦ inl (named.0, contained named.0 front at, named.2, named.3)
  | inr at ↦ inr (named.0, contained named.0 more at, named.2, named.3)
]

named_either : (front more : List Record) (x : ℕ) → IsNamedAmong front x ⊎ IsNamedAmong more x → IsNamedAmong (front ++ more) x
named_either front more x some = elim some [
  | inl n ↦ (n.0, contained n.0 (front ++ more) (in_left n.0 front more (is_in n.0 front n.1)), n.2, n.3)
  | inr n ↦ (n.0, contained n.0 (front ++ more) (in_right n.0 front more (is_in n.0 more n.1)), n.2, n.3)
]

-- what more records add
pub named_on : (front more : List Record) (a b c : List ℕ) → AreAdded a b (IsNamedAmong front) → AreAdded b c (IsNamedAmong more) → AreAdded a c (IsNamedAmong (front ++ more))
named_on front more a b c first next =
    added_as a c (λ x. IsNamedAmong front x ⊎ IsNamedAmong more x) (IsNamedAmong (front ++ more)) (added_both a b c (IsNamedAmong front) (IsNamedAmong more) first next) (named_either front more) (named_more front more)

module _ (s : Slot) (head : Dirent) (name : List ℕ) (shown : IsShown head name s) (b : Bool) (used : is_in_use head ≡ true) (told : (IsTrue b → (j : ℕ) × (name ≡ journal_name j)) × (((j : ℕ) × (name ≡ journal_name j)) → IsTrue b)) where
  used_slot : is_in_use s.head ≡ true
  used_slot = ap is_in_use (sym shown.head_is) ∙ used

  same_name : name ≡ name_of s
  same_name = shown.name_is used_slot

  the_record : told_in (s ∷ []) ≡ record_of s ∷ []
  the_record = let u = used_slot in rw u refl

  one : (r : Record) → Contains (told_in (s ∷ [])) r → r ≡ record_of s
  one r has = elim (is_in r (record_of s ∷ []) (subst (λ rs. Contains rs r) the_record has)) [ inl e ↦ e | inr none ↦ absurd none ]

  -- it has the name of no journal
  pub named_nowhere : b ≡ false → (x : ℕ) → IsNamedAmong (told_in (s ∷ [])) x → ⊥
  named_nowhere off x named =
      let t : b ≡ true = told.1 (named.2.0, same_name ∙ sym (ap (λ (r : Record). r.name) (one named.0 named.1)) ∙ named.2.1) in
      let f : false ≡ true = sym off ∙ t in
      cc

  -- or that of one
  pub named_here : b ≡ true → (a news : List ℕ) → news ≡ a ++ head.inum.address ∷ [] → AreAdded a news (IsNamedAmong (told_in (s ∷ [])))
  named_here on a news is =
      let j = told.0 on in
      let at : head.inum.address ≡ (record_of s).address = ap (λ (h : Dirent). h.inum.address) shown.head_is in
      added_as a news (λ x. x ≡ head.inum.address) (IsNamedAmong (told_in (s ∷ []))) (added_one a news head.inum.address is)
      (λ x e. (
        record_of s,
        subst (λ rs. Contains rs (record_of s)) (sym the_record) (contained (record_of s) (record_of s ∷ []) (inl refl)),
        (j.0, sym same_name ∙ j.1),
        sym at ∙ sym e,
      ))
      (λ x named. sym named.3 ∙ ap (λ (r : Record). r.address) (one named.0 named.1) ∙ sym at)

-- a record that is not in use says nothing
pub named_unused : (s : Slot) (head : Dirent) (name : List ℕ) → IsShown head name s → is_in_use head ≡ false → (x : ℕ) → IsNamedAmong (told_in (s ∷ [])) x → ⊥
named_unused s head name shown off x named =
    let u : is_in_use s.head ≡ false = ap is_in_use (sym shown.head_is) ∙ off in
    let none : told_in (s ∷ []) ≡ [] = rw u refl in
    named_none x (subst (λ rs. IsNamedAmong rs x) none named)

-- ---- the records of a hashed directory are those in its leaves

abbrev pub IsNamedInLeaf : Holding → (ℕ → Type 0) → ℕ → Type 0
IsNamedInLeaf h P d = (x : ℕ) × P x × IsNamedAmong (records_in (leaf_area h x)) d

-- what the records of one leaf more add
pub areas_on : (h : Holding) (leaves : List ℕ) (k x : ℕ) (area : List ℕ) → slice_get leaves k ≡ Some x → area ≡ leaf_area h x → (a b c : List ℕ)
    → AreAdded a b (IsNamedInLeaf h (IsAmongFirst leaves k)) → AreAdded b c (IsNamedAmong (records_in area)) → AreAdded a c (IsNamedInLeaf h (IsAmongFirst leaves (k + 1)))
areas_on h leaves k x area there is a b c before these =
    added_as a c (λ d. IsNamedInLeaf h (IsAmongFirst leaves k) d ⊎ IsNamedAmong (records_in area) d) (IsNamedInLeaf h (IsAmongFirst leaves (k + 1)))
    (added_both a b c (IsNamedInLeaf h (IsAmongFirst leaves k)) (IsNamedAmong (records_in area)) before these)
    (λ d some. elim some [
      | inl one ↦ (one.0, (one.1.0, (let low = one.1.1 in omega (arith, low)), one.1.2), one.2)
      | inr named ↦ (x, (k, omega arith, there), subst (λ bs. IsNamedAmong (records_in bs) d) is named)
    ])
    (λ d one. elim (parted one.1.0 k one.1.1) [
      | inl less ↦ inl (one.0, (one.1.0, less, one.1.2), one.2)
      | inr same ↦
          let at : x ≡ one.0 = some_same (sym there ∙ ap (slice_get leaves) (sym same) ∙ one.1.2) in
          inr (subst (λ bs. IsNamedAmong (records_in bs) d) (ap (leaf_area h) (sym at) ∙ sym is) one.2)
    ])

pub areas_over : (h : Holding) (leaves : List ℕ) (k : ℕ) → length leaves ≤ k → (a b : List ℕ) → AreAdded a b (IsNamedInLeaf h (IsAmongFirst leaves k)) → AreAdded a b (IsNamedInLeaf h (Contains leaves))
areas_over h leaves k all a b are =
    added_as a b (IsNamedInLeaf h (IsAmongFirst leaves k)) (IsNamedInLeaf h (Contains leaves)) are
    (λ d one. (one.0, contained_by leaves one.1.0 one.0 one.1.2, one.2))
    (λ d one. let at = contained_at leaves one.0 one.1 in (one.0, (at.0, (let low = at.1 in omega (arith, low, all)), at.2), one.2))

-- the leaf in a block of the list
pub leaf_there : (v : Seen) (h : Holding) → IsDirectoryIn v h → is_hashed_in h ≡ true → (x : ℕ) (leaf : IsLeafOf h x) → (v.block_at x ≡ Some (bytes_at h x)) × IsLeaf h leaf.0 x
leaf_there v h is hashed x leaf = (is.has x (cell_some (h.cell x) (InChain leaf.0 leaf.1) leaf.2), (rules h is.sound hashed).leaves x leaf.0 leaf.1 leaf.2)

pub leaves_so : (h : Holding) (P Q : ℕ → Type 0) → ((x : ℕ) → P x → Q x) → (d : ℕ) → IsNamedInLeaf h P d → IsNamedInLeaf h Q d
leaves_so h P Q so d one = (one.0, so one.0 one.1, one.2)

pub areas_are : (h : Holding) → IsSound h → is_hashed_in h ≡ true → (a b : List ℕ) → AreAdded a b (IsNamedInLeaf h (IsLeafOf h)) → AreAdded a b (IsNamedAmong (records_of h))
unfolding records_of
areas_are h sound hashed a b are =
    added_as a b (IsNamedInLeaf h (IsLeafOf h)) (IsNamedAmong (records_of h)) are
    (λ d named.
    let r = named.2.0 in
    let x = named.0 in
    let leaf = named.1 in
    let there = in_flat_map (λ y. records_in (leaf_area h y)) x r (leaves_of h) (in_leaves h sound hashed x leaf.0 leaf.1 leaf.2) (is_in r (records_in (leaf_area h x)) named.2.1) in
    (r, subst (λ rs. Contains rs r) (sym (cond-true _ _ _ hashed)) (contained r (flat_map (λ y. records_in (leaf_area h y)) (leaves_of h)) there), named.2.2, named.2.3))
    (λ d named.
    let r = named.0 in
    let has : Contains (flat_map (λ y. records_in (leaf_area h y)) (leaves_of h)) r = subst (λ rs. Contains rs r) (cond-true _ _ _ hashed) named.1 in
    let from = from_flat_map (λ y. records_in (leaf_area h y)) r (leaves_of h) (is_in r (flat_map (λ y. records_in (leaf_area h y)) (leaves_of h)) has) in
    (from.0, of_leaves h sound hashed from.0 from.1, (r, contained r (records_in (leaf_area h from.0)) from.2, named.2, named.3)))

-- ---- the directory of journals

module _ (v : Seen) (r : Image) (o : Owners) (l : Layout) (s : ShowsFrame v r o l) (d : ℕ) (at : d ≡ l.jindex) where
  jindex_is_file : IsSystemFile r d
  jindex_is_file = held.index_file r o l s.laid d (jindex at)

  pub jindex_is_directory : is_directory_in (holding r o d) ≡ true
  jindex_is_directory =
      is_directory_row r o l s.laid d (held.dinode v r o l s d jindex_is_file) (subst (λ a. is_directory_in (every r a) ≡ true) (sym at) (jindex_directory r o l s.laid))

  pub journals_are : (a b : List ℕ) → AreAdded a b (IsNamedAmong (records_of (holding r o d))) → AreAdded a b (IsJournalFile r)
  journals_are a b are =
      added_as a b (IsNamedAmong (records_of (holding r o d))) (IsJournalFile r) are
      (λ x named.
      let rec = named.0 in
      let j = named.2.0 in
      let dots : is_dots rec.name ≡ false = ap is_dots named.2.1 ∙ refl in
      let file = jindex_is_file in
      let claim = record_claim r o l s.laid d (held.dinode v r o l s d file) (inode_claim r o l s.laid d (held.dinode v r o l s d file)) jindex_is_directory rec named.1 dots in
      (j, (d, subst (IsJindex r) (sym at) (has_jindex r o l s.laid), subst (LeadsTo r d (journal_name j)) named.3 (subst (λ n. LeadsTo r d n rec.address) named.2.1 claim))))
      (λ x has.
      let j = has.0 in
      let one : has.1.0 ≡ d = jindex_is r o l s.laid has.1.0 has.1.1 ∙ sym at in
      let child = leads_child_of r o l s.laid d (journal_name j) x (subst (λ a. LeadsTo r a (journal_name j) x) one has.1.2) in
      let records = sym (child_is v r o l s d (jindex at) (journal_name j) jindex_is_directory refl) ∙ child in
      let found = leading (records_of (holding r o d)) (journal_name j) x records in
      (found.entry, found.there, (j, found.named), found.address))

-- ---- the name of a journal

pub spelled : (name number : List ℕ) → true ≡ pointwise nat_eq (take 7 name) (codes "journal") → number ≡ drop 7 name → name ≡ codes "journal" ++ number
spelled name number same is = sym (take-append-drop 7 name) ∙ ap (λ ys. ys ++ drop 7 name) (same_text (take 7 name) (codes "journal") same) ∙ ap (λ ys. codes "journal" ++ ys) (sym is)

pub numbered : (name number : List ℕ) (j : ℕ) → number ≡ drop 7 name → name ≡ journal_name j → number ≡ decimal j
numbered name number j is named = is ∙ ap (drop 7) named ∙ refl

pub begins : (name : List ℕ) (j : ℕ) → name ≡ journal_name j → take 7 name ≡ codes "journal"
begins name j named = ap (take 7) named ∙ refl
