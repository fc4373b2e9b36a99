-- What a chain says of a name is what the directory says of it.
use Rattle.std.proofs.Common.{◌≡◌, ℕ, ◌+◌, ◌^◌, ◌<◌, ◌≤◌, ◌⊎◌, inl, inr, Bool, true, false, List, [], ◌∷◌, Option, None, Some, refl, sym, ap, ◌∙◌, subst, arith}
use Rattle.std.specs.Prelude.{count_by, find, flat_map, if◌then◌else◌}
use Rattle.std.specs.Str.{bytes_eq}
use Rattle.std.proofs.lemmas.Bool.{cond-true, true≢false}
use Rattle.std.proofs.lemmas.Slice.Eq.{bytes_eq-Decides}
use Rattle.crc_words.specs.Remainder.{crc32_of}
use Rattle.gfs2_layout.specs.Holding.{Holding}
use Rattle.gfs2_layout.specs.Inode.{first_hash, is_hashed_in, leaf_area, leaves_of, linear_area, records_of}
use Rattle.gfs2_layout.specs.Records.{Record, record_named, records_in}
use Rattle.image_model.proofs.Counts.{one_passes}
use Rattle.image_model.proofs.Held.{none_some, some_same}
use Rattle.image_model.proofs.Members.{IsIn, contained, in_flat_map, from_flat_map}
use Rattle.pointer_tables.specs.Directories.{IsInChain}
use Rattle.hash_dirs.specs.Shown.{IsSound, index_for}
use Rattle.hash_dirs.specs.Finding.{IsFirstNamed, IsNamedLater, in_leaf, nowhere}
use Rattle.hash_dirs.proofs.Chained.{in_chain, in_leaves, of_leaves, own_chain}

-- ---- the first element of a list that passes a test

module _ {X : Type 0} (test : X → Bool) where
  pub find_some : (xs : List X) (x : X) → find test xs ≡ Some x → IsIn x xs × (test x ≡ true)
  find_some [] x e = absurd (none_some e)
  find_some (y ∷ ys) x e = by (test y) (find_some ys x) refl e
    where
      by : (b : Bool) → (find test ys ≡ Some x → IsIn x ys × (test x ≡ true)) → test y ≡ b → (if b then Some y else find test ys) ≡ Some x → IsIn x (y ∷ ys) × (test x ≡ true)
      by true later is e = (inl (sym (some_same e)), ap test (sym (some_same e)) ∙ is)
      by false later is e = let found = later e in (inr found.0, found.1)

  pub find_none : (xs : List X) (x : X) → find test xs ≡ None → IsIn x xs → test x ≡ true → ⊥
  find_none [] x e is passes = is
  find_none (y ∷ ys) x e is passes = by (test y) (λ none there. find_none ys x none there passes) refl e is
    where
      by : (b : Bool) → (find test ys ≡ None → IsIn x ys → ⊥) → test y ≡ b → (if b then Some y else find test ys) ≡ None → (x ≡ y) ⊎ IsIn x ys → ⊥
      by true later is e there = none_some (sym e)
      by false later is e (inl same) = true≢false (sym passes ∙ ap test same ∙ is)
      by false later is e (inr there) = later e there

  pub found_one : (xs : List X) (x : X) → count_by test xs ≤ 1 → IsIn x xs → test x ≡ true → find test xs ≡ Some x
  found_one xs x once is passes = by (find test xs) refl
    where
      by : (o : Option X) → find test xs ≡ o → o ≡ Some x
      by None e = absurd (find_none xs x e is passes)
      by (Some y) e = let found = find_some xs y e in ap Some (one_passes test y x xs once found.0 is found.1 passes)

-- ---- the records of a hashed directory

pub records_are : (h : Holding) → is_hashed_in h ≡ true → records_of h ≡ flat_map (λ x. records_in (leaf_area h x)) (leaves_of h)
unfolding records_of
records_are h hashed = cond-true (is_hashed_in h) (flat_map (λ x. records_in (leaf_area h x)) (leaves_of h)) (records_in (linear_area h)) hashed

abbrev pub is_named : List ℕ → Record → Bool
is_named name r = bytes_eq name r.name

module _ (h : Holding) (name : List ℕ) (sound : IsSound h) (hashed : is_hashed_in h ≡ true) (small : crc32_of name < 2 ^ 32) where
  record_there : (i place x : ℕ) (r : Record) → IsInChain h i place x → IsIn r (records_in (leaf_area h x)) → IsIn r (records_of h)
  record_there i place x r chain is =
      subst (IsIn r) (sym (records_are h hashed)) (in_flat_map (λ y. records_in (leaf_area h y)) x r (leaves_of h) (in_leaves h sound hashed x (first_hash h i) place (in_chain h sound hashed i place x chain)) is)

  not_later : (r : Record) → IsIn r (records_of h) → is_named name r ≡ true → ((place : ℕ) → IsNamedLater h (index_for h name) name place) → ⊥
  not_later r is named later =
      let from = from_flat_map (λ y. records_in (leaf_area h y)) r (leaves_of h) (subst (IsIn r) (records_are h hashed) is) in
      let leaf = of_leaves h sound hashed from.0 from.1 in
      let same : name ≡ r.name = (bytes_eq-Decides name r.name).0 named in
      let chain = own_chain h sound hashed from.0 leaf.0 leaf.1 r (subst (λ n. crc32_of n < 2 ^ 32) same small) leaf.2 (contained r (records_in (leaf_area h from.0)) from.2) in
      find_none (is_named name) (records_in (leaf_area h from.0)) r (later (leaf.1 + 1) leaf.1 from.0 (omega arith) (subst (λ n. IsInChain h (index_for h n) leaf.1 from.0) (sym same) chain)) from.2 named

  pub tells : (named : Option Record) → IsFirstNamed h (index_for h name) name named → named ≡ record_named (records_of h) name
  tells _ (in_leaf place x r chain is later heads) =
      let found = find_some (is_named name) (records_in (leaf_area h x)) r is in
      sym (found_one (is_named name) (records_of h) r (sound.once name) (record_there (index_for h name) place x r chain found.0) found.1)
  tells _ (nowhere ends later heads) = by (record_named (records_of h) name) refl
    where
      by : (o : Option Record) → record_named (records_of h) name ≡ o → None ≡ o
      by None e = refl
      by (Some r) e = let found = find_some (is_named name) (records_of h) r e in absurd (not_later r found.0 found.1 later)
