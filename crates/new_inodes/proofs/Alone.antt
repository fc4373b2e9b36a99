-- An inode that has its dinode's block alone.
use Rattle.std.proofs.Common.{◌≡◌, ◌≢◌, ◌⊎◌, ℕ, zero, suc, ◌+◌, ◌<◌, ◌≤◌, Bool, true, false, inl, inr, List, length, drop, Option, None, Some, Ok, refl, sym, ap, ◌∙◌, subst, arith}
use Rattle.std.specs.Prelude.{◌==◌, ◌&&◌, is_some, count_by, if◌then◌else◌}
use Rattle.std.specs.List.{range_with_len}
use Rattle.std.proofs.lemmas.Bool.{cases_eq, cond-true, cond-false, eq-eqb, ne_eqb, both_ways, and_right}
use Rattle.std.proofs.lemmas.List.Sums.{sum_by-cons}
use Rattle.gfs2_layout.specs.Groups.{one_if}
use Rattle.gfs2_layout.specs.Headers.{HasHeader}
use Rattle.gfs2_layout.specs.Holding.{Holding, Cell, Part, Itself, Pointed, InChain, cell_part, cell_bytes, part_at, bytes_at, alone}
use Rattle.gfs2_layout.specs.Inode.{IsInode, dinode_in, height_in, has_hash_flag, is_hashed_in, linear_area, records_of, block_count}
use Rattle.gfs2_layout.specs.Records.{records_in, IsRecordArea}
use Rattle.gfs2_layout.specs.Structures.{header_fault, dinode_of, dinode_read, dinode_length, is_directory, is_regular}
use Rattle.gfs2_layout.specs.declared.dinode.Dinode.{Dinode}
use Rattle.gfs2_layout.proofs.HeaderLaws.{answer_ok, header_from}

-- one of the numbers below a bound is counted once
none_counted : (b a n : ℕ) → b < a → count_by (λ x. x == b) (range_with_len a n) ≡ 0
none_counted b a zero past = refl
none_counted b a (suc n) past =
    let step : count_by (λ x. x == b) (range_with_len a (suc n)) ≡ one_if (a == b) + count_by (λ x. x == b) (range_with_len (a + 1) n) = sum_by-cons (λ x. one_if (x == b)) a (range_with_len (a + 1) n) in
    let head : one_if (a == b) ≡ 0 = cond-false {A = ℕ} (a == b) 1 0 (ne_eqb a b (λ e. absurd (omega (arith, e, past)))) in
    omega (arith, step, head, none_counted b (a + 1) n (omega (arith, past)))

one_counted : (b a n : ℕ) → a ≤ b → b < a + n → count_by (λ x. x == b) (range_with_len a n) ≡ 1
one_counted b a zero low high = absurd (omega (arith, low, high))
one_counted b a (suc n) low high =
    let step : count_by (λ x. x == b) (range_with_len a (suc n)) ≡ one_if (a == b) + count_by (λ x. x == b) (range_with_len (a + 1) n) = sum_by-cons (λ x. one_if (x == b)) a (range_with_len (a + 1) n) in
    elim (cases_eq a b) [
      | inl here ↦
          let head : one_if (a == b) ≡ 1 = cond-true {A = ℕ} (a == b) 1 0 (eq-eqb a b here) in
          omega (arith, step, head, none_counted b (a + 1) n (omega (arith, here)))
      | inr other ↦
          let head : one_if (a == b) ≡ 0 = cond-false {A = ℕ} (a == b) 1 0 (ne_eqb a b other) in
          omega (arith, step, head, one_counted b (a + 1) n (omega (arith, low, other)) (omega (arith, high)))
    ]

some_same : {A : Type 0} (x y : A) → Some x ≡ Some y → x ≡ y
some_same x y e = cc

is_none : {A : Type 0} (x : A) → ◌≡◌ {A = Option A} None (Some x) → ⊥
is_none x e = cc

-- a block with the dinode of an inode that has no other
pub record IsWhole (size block : ℕ) (bytes : List ℕ) (d : Dinode) : Type 0 where
  pub long : length bytes ≡ size
  pub read : dinode_read bytes ≡ Ok d
  pub address : d.num.address ≡ block
  pub number : d.num.number ≢ 0
  pub mode : (is_directory d ≡ true) ⊎ (is_regular d ≡ true)
  pub links : is_directory d ≡ false → d.nlink ≡ 1
  pub height : d.height ≡ 0
  pub blocks : d.blocks ≡ 1
  pub fits : dinode_length + d.size ≤ size
  pub unhashed : has_hash_flag d ≡ false
  pub filled : is_directory d ≡ true → (dinode_length + d.size ≡ size) × IsRecordArea (drop dinode_length bytes)

module _ (size count block : ℕ) (bytes : List ℕ) (d : Dinode) (low : block < count) (is : IsWhole size block bytes d) where
  abbrev h : Holding
  h = alone size count block bytes

  pub bytes_are : bytes_at h block ≡ bytes
  bytes_are = ap cell_bytes (cond-true (block == block) (Some (record { part = Itself; bytes = bytes })) None (eq-eqb block block refl))

  own_alone : (b : ℕ) (p : Part) → part_at h b ≡ Some p → (b ≡ block) × (p ≡ Itself)
  own_alone b p at = elim (cases_eq b block) [
    | inl same ↦
        let part : part_at h b ≡ Some Itself = ap cell_part (cond-true (b == block) (Some (record { part = Itself; bytes = bytes })) None (eq-eqb b block same)) in
        (same, some_same p Itself (sym at ∙ part))
    | inr other ↦
        let none : part_at h b ≡ None = ap cell_part (cond-false (b == block) (Some (record { part = Itself; bytes = bytes })) None (ne_eqb b block other)) in
        absurd (is_none p (sym none ∙ at))
  ]

  no_pointed : (x b k level first : ℕ) → part_at h x ≡ Some (Pointed b k level first) → ⊥
  no_pointed x b k level first at = no (own_alone x (Pointed b k level first) at).1
    where
      no : Pointed b k level first ≡ Itself → ⊥
      no e = cc

  no_chain : (x hash place : ℕ) → part_at h x ≡ Some (InChain hash place) → ⊥
  no_chain x hash place at = no (own_alone x (InChain hash place) at).1
    where
      no : InChain hash place ≡ Itself → ⊥
      no e = cc

  read_is : (header_fault dinode_length 4 400 bytes ≡ None) × (dinode_of bytes ≡ d)
  read_is = answer_ok (header_fault dinode_length 4 400 bytes) (dinode_of bytes) d is.read

  pub dinode_is : dinode_in h ≡ d
  unfolding dinode_in
  dinode_is = ap dinode_of bytes_are ∙ read_is.1

  height_none : height_in h ≡ 0
  height_none = ap (λ (x : Dinode). x.height) dinode_is ∙ is.height

  pub linear_is : is_hashed_in h ≡ false
  linear_is = ap (λ (x : Dinode). is_directory x && has_hash_flag x) dinode_is ∙ and_right (is_directory d) (has_hash_flag d) is.unhashed

  area_is : linear_area h ≡ drop dinode_length bytes
  area_is = ap (drop dinode_length) bytes_are

  pub records_are : records_of h ≡ records_in (drop dinode_length bytes)
  unfolding records_of
  records_are = cond-false _ _ _ linear_is ∙ ap records_in area_is

  some_if : (b : Bool) (c : Cell) → is_some (if b then Some c else None) ≡ b
  some_if true c = refl
  some_if false c = refl

  one_block : block_count h ≡ 1
  unfolding block_count
  one_block = ap (λ (p : ℕ → Bool). count_by p (range_with_len 0 count)) (λ i b. some_if (b == block) (record { part = Itself; bytes = bytes }) i) ∙ one_counted block 0 count (omega arith) (omega (arith, low))

  pub is_sound : IsInode h
  is_sound = record {
    whole = λ b p at. ap (λ x. length (bytes_at h x)) (own_alone b p at).0 ∙ ap length bytes_are ∙ is.long;
    header = subst (HasHeader 4 400) (sym bytes_are) (header_from dinode_length 4 400 bytes read_is.0);
    address = ap (λ (x : Dinode). x.num.address) dinode_is ∙ is.address;
    number = λ none. is.number (ap (λ (x : Dinode). x.num.number) (sym dinode_is) ∙ none);
    mode = subst (λ (x : Dinode). (is_directory x ≡ true) ⊎ (is_regular x ≡ true)) (sym dinode_is) is.mode;
    links = λ file. ap (λ (x : Dinode). x.nlink) dinode_is ∙ is.links (ap is_directory (sym dinode_is) ∙ file);
    fits = record {
      low = omega (arith, height_none);
      stuffed = λ none. omega (arith, is.fits, ap (λ (x : Dinode). x.size) dinode_is);
      under = λ level high. absurd (omega (arith, high, height_none));
    };
    tree = record {
      top = λ level high. absurd (omega (arith, high, height_none));
      inner = λ x b k level first at. absurd (no_pointed x b k (suc level) first at);
      pointed = λ x b k level first at. absurd (no_pointed x b k level first at);
      below = λ x b k level first at. absurd (no_pointed x b k level first at);
      indirect = λ x b k level first at. absurd (no_pointed x b k (suc level) first at);
      table = λ x b k first directory at. absurd (no_pointed x b k 0 first at);
    };
    linear = λ directory unhashed.
        let filled = is.filled (ap is_directory (sym dinode_is) ∙ directory) in
        record {
          stuffed = height_none;
          size = omega (arith, filled.0, ap (λ (x : Dinode). x.size) dinode_is);
          area = subst IsRecordArea (sym area_is) filled.1;
        };
    hashed = λ hashed. absurd (both_ways (is_hashed_in h) linear_is hashed);
    leafless = λ unhashed. no_chain;
    blocks = ap (λ (x : Dinode). x.blocks) dinode_is ∙ is.blocks ∙ sym one_block;
  }
