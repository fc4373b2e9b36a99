-- The records of a leaf that have names which are looked for, and those that have others.
use Rattle.std.proofs.Common.{◌≡◌, ◌≢◌, inl, inr, ℕ, zero, suc, cond, ◌+◌, ◌||◌, ◌&&◌, ◌<◌, ◌≤◌, true, false, List, [], ◌∷◌, ◌++◌, length, take, get_or, Option, None, Some, refl, sym, ap, subst, ◌∙◌, arith}
use Rattle.std.specs.Prelude.{codes, map, not, slice_get, IfNone}
use Rattle.std.specs.List.{All}
use Rattle.std.specs.Str.{bytes_eq}
use Rattle.std.proofs.lemmas.Bool.{cases_lt, true≢false}
use Rattle.std.proofs.lemmas.List.{map-append, take_more, take_all}
use Rattle.std.proofs.lemmas.List.Sums.{sum_by-cons}
use Rattle.std.proofs.lemmas.Option.{slice_get-get_or, slice_get_within, get_or_from_slice_get}
use Rattle.std.proofs.lemmas.Slice.Eq.{bytes_eq-Decides}
use Rattle.gfs2_layout.specs.Records.{Record, is_dots}
use Rattle.image_model.specs.Journals.{journal_name}
use Rattle.image_model.proofs.Counts.{count_append}
use Rattle.image_model.proofs.JournalNames.{digit_name}
use Rattle.image_mount.specs.Found.{first_other, is_other, name_count}
use Rattle.image_mount.specs.Listing.{said, standing}
use Rattle.image_mount.specs.Sifting.{AreAdded, AreSifted, IsBeside, IsForeign}
use Rattle.image_mount.specs.declared.leaf.Names.{Names}
use Rattle.image_mount.specs.declared.leaf.Names.TheVariants.{Files}
use Rattle.image_mount.specs.declared.listing.Named.{Named}
use Rattle.image_mount.proofs.Adding.{distinct_more, get_either, leaf_standing, said_of}
use Rattle.image_mount.proofs.Names.{at_contains, contains_at, from_mapped, mapped_at, none_found}

-- ---- names

pub unequal : (name other given : List ℕ) → other ≡ given → false ≡ bytes_eq name other → name ≢ given
unequal name other given is differs same =
    true≢false (sym ((bytes_eq-Decides name given).1 same) ∙ ap (bytes_eq name) (sym is) ∙ sym differs)

pub no_dots : (name a b : List ℕ) → a ≡ codes "." → b ≡ codes ".." → false ≡ bytes_eq name a → false ≡ bytes_eq name b → is_dots name ≡ false
no_dots name a b a_is b_is first second =
    let one : bytes_eq name (codes ".") ≡ false = ap (bytes_eq name) (sym a_is) ∙ sym first in
    let two : bytes_eq name (codes "..") ≡ false = ap (bytes_eq name) (sym b_is) ∙ sym second in
    λ i. one i || two i

pub no_file : (name a b : List ℕ) → a ≡ codes "jindex" → b ≡ codes "rindex" → false ≡ bytes_eq name a → false ≡ bytes_eq name b → IsForeign Files name
no_file name a b a_is b_is first second =
    let one : bytes_eq name (codes "jindex") ≡ false = ap (bytes_eq name) (sym a_is) ∙ sym first in
    let two : bytes_eq name (codes "rindex") ≡ false = ap (bytes_eq name) (sym b_is) ∙ sym second in
    λ i. one i || two i

-- one of the numbers below eight
data IsBelow (j : ℕ) : Type 0 where
  at0 : j ≡ 0 → IsBelow j
  at1 : j ≡ 1 → IsBelow j
  at2 : j ≡ 2 → IsBelow j
  at3 : j ≡ 3 → IsBelow j
  at4 : j ≡ 4 → IsBelow j
  at5 : j ≡ 5 → IsBelow j
  at6 : j ≡ 6 → IsBelow j
  at7 : j ≡ 7 → IsBelow j

below : (j : ℕ) → j < 8 → IsBelow j
below zero low = at0 refl
below (suc zero) low = at1 refl
below (suc (suc zero)) low = at2 refl
below (suc (suc (suc zero))) low = at3 refl
below (suc (suc (suc (suc zero)))) low = at4 refl
below (suc (suc (suc (suc (suc zero))))) low = at5 refl
below (suc (suc (suc (suc (suc (suc zero)))))) low = at6 refl
below (suc (suc (suc (suc (suc (suc (suc zero))))))) low = at7 refl
below (suc (suc (suc (suc (suc (suc (suc (suc j)))))))) low = absurd (omega (arith, low))

pub no_journal : (name : List ℕ) → (name ≢ codes "journal0") × (name ≢ codes "journal1") × (name ≢ codes "journal2") × (name ≢ codes "journal3")
    → (name ≢ codes "journal4") × (name ≢ codes "journal5") × (name ≢ codes "journal6") × (name ≢ codes "journal7") → (j : ℕ) → j < 8 → name ≢ journal_name j
no_journal name early late j low same = elim (below j low) [
  | at0 e ↦ early.0 (is 0 e)
  | at1 e ↦ early.1 (is 1 e)
  | at2 e ↦ early.2 (is 2 e)
  | at3 e ↦ early.3 (is 3 e)
  | at4 e ↦ late.0 (is 4 e)
  | at5 e ↦ late.1 (is 5 e)
  | at6 e ↦ late.2 (is 6 e)
  | at7 e ↦ late.3 (is 7 e)
]
  where
    is : (n : ℕ) → j ≡ n → name ≡ codes "journal" ++ (48 + n) ∷ []
    is n e = same ∙ digit_name j (omega (arith, low)) ∙ ap (λ m. codes "journal" ++ (48 + m) ∷ []) e

-- what is said where there is none
pub none_of : {X P Q : Type 0} (o : Option X) → (P → Q) → IfNone o P → IfNone o Q
none_of None f is = f is
none_of (Some x) f is = is

-- ---- one record more

names_more : (xs : List Record) (r : Record) → name_count (xs ++ r ∷ []) ≡ name_count xs + name_count (r ∷ [])
names_more xs r = count_append (λ (q : Record). not (is_dots q.name)) xs (r ∷ [])

named_one : (r : Record) → is_dots r.name ≡ false → name_count (r ∷ []) ≡ 1
named_one r plain = sum_by-cons (λ (q : Record). cond (not (is_dots q.name)) 1 0) r [] ∙ ap (λ b. cond (not b) 1 0 + 0) plain

said_more : (records : List Named) (n : ℕ) (d : Named) → n < length records → map said (take (n + 1) records) ≡ map said (take n records) ++ said (get_or records n d) ∷ []
said_more records n d low = ap (map said) (take_more records n d low) ∙ map-append said (take n records) (get_or records n d ∷ [])

standing_more : (records : List Named) (n : ℕ) (d : Named) → n < length records → map standing (take (n + 1) records) ≡ map standing (take n records) ++ standing (get_or records n d) ∷ []
standing_more records n d low = ap (map standing) (take_more records n d low) ∙ map-append standing (take n records) (get_or records n d ∷ [])

same_named : (m n : Named) → Some m ≡ Some n → m ≡ n
same_named m n e = cc

pub sifted_start : (names : Names) (records : List Named) → AreSifted names records 0 [] 0
sifted_start names records = record {
  there = λ i m at. cc;
  count = refl;
  all = λ none. refl;
  beside = λ some. absurd (omega (arith, some));
  distinct = λ d i j r s at other same. cc;
  few = omega arith;
}

module _ (names : Names) (records kept : List Named) (n others : ℕ) (d : Named) (before : AreSifted names records n kept others) (low : n < length records) where
  pub sifted_kept : (new : List Named) (y : Named) → new ≡ kept ++ y ∷ [] → standing y ≡ standing (get_or records n d) → AreSifted names records (n + 1) new others
  sifted_kept new y is same = record {
    there = there;
    count = omega (
      arith,
      ap name_count (said_more records n d low),
      names_more (map said (take n records)) (said (get_or records n d)),
      ap name_count (ap (map said) is ∙ map-append said kept (y ∷ [])),
      names_more (map said kept) (said y),
      ap (λ r. name_count (r ∷ [])) (ap (λ (p : Record × ℕ). p.0) same),
      before.count,
    );
    all = λ none.
        ap (map standing) is ∙ map-append standing kept (y ∷ []) ∙ (λ i. before.all none i ++ same i ∷ []) ∙ sym (standing_more records n d low);
    beside = before.beside;
    distinct = λ dis. distinct_more kept new y (before.distinct dis) is (λ i m at named.
        let one = before.there i m at in
        let first = mapped_at said records one.0 one.1.0 one.1.2 in
        let second = mapped_at said records n (get_or records n d) (slice_get-get_or records n d low) in
        let equal : (said one.1.0).name ≡ (said (get_or records n d)).name
        = ap (λ (p : Record × ℕ). p.0.name) one.1.3 ∙ named ∙ ap (λ (p : Record × ℕ). p.0.name) same in
        absurd (omega (arith, one.1.1, dis one.0 n (said one.1.0) (said (get_or records n d)) first second equal)));
    few = omega (arith, before.few);
  }
    where
      last : (i : ℕ) (m : Named) → slice_get (y ∷ []) i ≡ Some m → y ≡ m
      last zero m at = same_named y m at
      last (suc i) m at = cc

      there : (i : ℕ) (m : Named) → slice_get new i ≡ Some m → (k : ℕ) × ((r : Named) × (k < n + 1) × (slice_get records k ≡ Some r) × (standing r ≡ standing m))
      there i m at = elim (get_either kept (y ∷ []) i m (ap (λ l. slice_get l i) (sym is) ∙ at)) [
        | inl old ↦ let one = before.there i m old in (one.0, (one.1.0, omega (arith, one.1.1), one.1.2, one.1.3))
        | inr new ↦ (n, (get_or records n d, omega arith, slice_get-get_or records n d low, sym same ∙ ap standing (last new.0 m new.1)))
      ]

  pub sifted_other : IsBeside names (get_or records n d).name.now → AreSifted names records (n + 1) kept (others + 1)
  sifted_other b = record {
    there = λ i m at. let one = before.there i m at in (one.0, (one.1.0, omega (arith, one.1.1), one.1.2, one.1.3));
    count = omega (
      arith,
      ap name_count (said_more records n d low),
      names_more (map said (take n records)) (said (get_or records n d)),
      named_one (said (get_or records n d)) b.0,
      before.count,
    );
    all = λ none. absurd (omega (arith, none));
    beside = λ some. (n, (get_or records n d, slice_get-get_or records n d low, b));
    distinct = before.distinct;
    few = omega (arith, before.few);
  }

pub sifted_all : (names : Names) (records kept : List Named) (n others : ℕ) → length records ≤ n → n ≤ length records → AreSifted names records n kept others → AreSifted names records (length records) kept others
sifted_all names records kept n others past low is = let same : n ≡ length records = omega (arith, past, low) in subst (λ m. AreSifted names records m kept others) same is

-- ---- the records of a leaf

-- where none has another name than those of system files, none is left out
pub none_left : (names : Names) (records kept : List Named) (others : ℕ) → AreSifted names records (length records) kept others → names ≡ Files → first_other (map said records) ≡ None → others ≡ 0
none_left names records kept others is files none = elim (cases_lt 0 others) [
  | inr past ↦ omega (arith, past)
  | inl some ↦
      let b = is.beside some in
      let foreign = subst (λ x. IsForeign x b.1.0.name.now) files b.1.2.1 in
      let other : is_other (said b.1.0) ≡ true = λ i. not (b.1.2.0 i) && not (foreign i) in
      absurd (true≢false (sym other ∙ none_found is_other (map said records) b.0 (said b.1.0) none (mapped_at said records b.0 b.1.0 b.1.1)))
]

pub sifted_added : (names : Names) (before after records kept : List Named) (block others : ℕ) (rs : List Record) → AreSifted names records (length records) kept others → map said records ≡ rs → All (λ n. n.block ≡ block) records
    → map standing after ≡ map standing before ++ map standing kept → AreAdded names before after block rs others
sifted_added names before after records kept block others rs is said_is here added = record {
  kept = map said kept;
  added = added ∙ ap (λ ys. map standing before ++ ys) (leaf_standing block kept (map said kept) refl kept_here);
  there = λ r has.
      let m = from_mapped said kept has.0 r (contains_at (map said kept) r has) in
      let one = is.there has.0 m.0 m.1 in
      at_contains rs one.0 r (ap (λ l. slice_get l one.0) (sym said_is) ∙ mapped_at said records one.0 one.1.0 one.1.2 ∙ ap Some (ap (λ (p : Record × ℕ). p.0) one.1.3 ∙ m.2));
  count = ap name_count (sym said_is) ∙ ap (λ xs. name_count (map said xs)) (sym (take_all (length records) records (omega arith))) ∙ is.count;
  all = λ none.
      sym (said_of kept) ∙ ap (map (λ (p : Record × ℕ). p.0)) (is.all none ∙ ap (map standing) (take_all (length records) records (omega arith))) ∙ said_of records ∙ said_is;
  beside = λ some.
      let b = is.beside some in
      (said b.1.0, at_contains rs b.0 (said b.1.0) (ap (λ l. slice_get l b.0) (sym said_is) ∙ mapped_at said records b.0 b.1.0 b.1.1), b.1.2);
}
  where
    kept_here : All (λ n. n.block ≡ block) kept
    kept_here k d low =
        let m = get_or kept k d in
        let one = is.there k m (slice_get-get_or kept k d low) in
        ap (λ (p : Record × ℕ). p.1) (sym one.1.3) ∙ ap (λ (n : Named). n.block) (sym (get_or_from_slice_get records one.0 one.1.0 one.1.0 one.1.2)) ∙ here one.0 one.1.0 (slice_get_within records one.0 one.1.0 one.1.2)

-- what holds of the leaf's records holds of those that are kept
pub kept_all : (P : Record → Type 0) (names : Names) (records kept : List Named) (others : ℕ) → AreSifted names records (length records) kept others → All (λ n. P (said n)) records → All (λ n. P (said n)) kept
kept_all P names records kept others is all k d low =
    let m = get_or kept k d in
    let one = is.there k m (slice_get-get_or kept k d low) in
    let at : P (said one.1.0) = subst (λ (n : Named). P (said n)) (get_or_from_slice_get records one.0 one.1.0 one.1.0 one.1.2) (all one.0 one.1.0 (slice_get_within records one.0 one.1.0 one.1.2)) in
    subst P (ap (λ (p : Record × ℕ). p.0) one.1.3) at
