-- How many records leaves have.
use Rattle.std.proofs.Common.{◌≡◌, ℕ, zero, suc, ◌+◌, ◌-◌, ◌<◌, ◌≤◌, inl, inr, true, false, List, [], ◌∷◌, ◌++◌, length, get_or, take, drop, Some, refl, sym, ap, ◌∙◌, arith}
use Rattle.std.specs.Prelude.{Contains, ◌==◌}
use Rattle.std.proofs.lemmas.Bool.{eq-eqb, ne_eqb}
use Rattle.std.proofs.lemmas.List.{append-nil, length-append, take_all, take_more, take-append-drop}
use Rattle.std.proofs.lemmas.List.Concat.{flat_map-cons}
use Rattle.std.proofs.lemmas.Grind.{flat_map-append}
use Rattle.gfs2_layout.specs.Area.{Slot}
use Rattle.gfs2_layout.specs.Holding.{Holding}
use Rattle.gfs2_layout.specs.Inode.{leaf_area, leaf_length}
use Rattle.gfs2_layout.specs.Records.{Record, record_of, records_in}
use Rattle.gfs2_layout.specs.Structures.{is_in_use}
use Rattle.glock_names.specs.Views.{Seen}
use Rattle.image_model.proofs.Members.{contained, is_in}
use Rattle.linear_dirs.specs.Reading.{told_in}
use Rattle.hash_dirs.specs.Leaves.{IsLeaf, IsRead, records_among}
use Rattle.hash_dirs.specs.Shown.{IsShown}
use Rattle.hash_dirs.proofs.Leaves.{bytes_there, led_to}

-- a record counts where it is in use
pub one_told : (s : Slot) (front : List Record) (n : ℕ) → is_in_use s.head ≡ true → n ≡ length front → n + 1 ≡ length (front ++ told_in (s ∷ []))
one_told s front n used is =
    let told : told_in (s ∷ []) ≡ record_of s ∷ [] = rw used refl in
    ap (λ m. m + 1) is ∙ sym (ap (λ rs. length (front ++ rs)) told ∙ length-append front (record_of s ∷ []))

pub none_told : (s : Slot) (front : List Record) (n : ℕ) → is_in_use s.head ≡ false → n ≡ length front → n ≡ length (front ++ told_in (s ∷ []))
none_told s front n free is =
    let told : told_in (s ∷ []) ≡ [] = rw free refl in
    is ∙ sym (ap (λ rs. length (front ++ rs)) told ∙ ap length (append-nil front))

-- ---- leaf after leaf

-- as many are counted in the first leaves, and so many are left to be counted
pub record IsCountedTo (h : Holding) (leaves : List ℕ) (n count left : ℕ) : Type 0 where
  pub is : count ≡ left + length (records_among h (take n leaves))

pub none_counted : (h : Holding) (leaves : List ℕ) (count : ℕ) → IsCountedTo h leaves 0 count count
none_counted h leaves count = record { is = omega arith }

pub there_is : (xs : List ℕ) (n : ℕ) → n < length xs → Contains xs (get_or xs n 0)
there_is [] n low = absurd (omega (arith, low))
there_is (y ∷ ys) zero low = contained y (y ∷ ys) (inl refl)
there_is (y ∷ ys) (suc n) low = contained (get_or ys n 0) (y ∷ ys) (inr (is_in (get_or ys n 0) ys (there_is ys n (omega (arith, low)))))

module _ (v : Seen) (dir : ℕ) (leaves : List ℕ) (read : (x : ℕ) → Contains leaves x → IsRead v x) (h : Holding) (shown : IsShown v dir h) (are : (x : ℕ) → Contains leaves x → IsLeaf h x) where
  here : (x : ℕ) (has : Contains leaves x) (records : ℕ) → ((bytes : List ℕ) → v.block_at x ≡ Some bytes → records ≡ length (records_in (drop leaf_length bytes))) → records ≡ length (records_in (leaf_area h x))
  here x has records told =
      let r = read x has in
      let leaf = are x has in
      let led = led_to h leaf.0 leaf.1 x leaf.2 in
      told r.bytes r.there ∙ ap (λ bytes. length (records_in (drop leaf_length bytes))) (sym (bytes_there v dir h leaf.0 led.0 x r.bytes shown led.1 r.small.0 r.there))

  module _ (n : ℕ) (low : n < length leaves) (has : Contains leaves (get_or leaves n 0)) (records : ℕ) (told : (bytes : List ℕ) → v.block_at (get_or leaves n 0) ≡ Some bytes → records ≡ length (records_in (drop leaf_length bytes))) where
    -- one leaf more
    one_leaf : records_among h (take (n + 1) leaves) ≡ records_among h (take n leaves) ++ records_in (leaf_area h (get_or leaves n 0))
    one_leaf =
        ap (records_among h) (take_more leaves n 0 low) ∙ flat_map-append (λ x. records_in (leaf_area h x)) (take n leaves) (get_or leaves n 0 ∷ [])
        ∙ ap (λ rs. records_among h (take n leaves) ++ rs) (flat_map-cons (λ x. records_in (leaf_area h x)) (get_or leaves n 0) [] ∙ append-nil (records_in (leaf_area h (get_or leaves n 0))))

    longer : length (records_among h (take (n + 1) leaves)) ≡ length (records_among h (take n leaves)) + records
    longer = ap length one_leaf ∙ length-append (records_among h (take n leaves)) (records_in (leaf_area h (get_or leaves n 0)))
        ∙ ap (λ m. length (records_among h (take n leaves)) + m) (sym (here (get_or leaves n 0) has records told))

    pub counted_on : (count left : ℕ) → records ≤ left → IsCountedTo h leaves n count left → IsCountedTo h leaves (n + 1) count (left - records)
    counted_on count left enough so = record { is = omega (arith, so.is, longer, enough) }

    -- there are more than are left
    pub too_many : (count left : ℕ) → left < records → IsCountedTo h leaves n count left → false ≡ (count == length (records_among h leaves))
    too_many count left more so =
        let whole : length (records_among h leaves) ≡ length (records_among h (take (n + 1) leaves)) + length (records_among h (drop (n + 1) leaves)) =
        ap (λ xs. length (records_among h xs)) (sym (take-append-drop (n + 1) leaves)) ∙ ap length (flat_map-append (λ x. records_in (leaf_area h x)) (take (n + 1) leaves) (drop (n + 1) leaves))
        ∙ length-append (records_among h (take (n + 1) leaves)) (records_among h (drop (n + 1) leaves)) in
        sym (ne_eqb count (length (records_among h leaves)) (λ e. absurd (omega (arith, so.is, longer, more, whole, e))))

  pub all_counted : (n count left : ℕ) → length leaves ≤ n → IsCountedTo h leaves n count left → (left == 0) ≡ (count == length (records_among h leaves))
  all_counted n count left past so =
      let is : count ≡ left + length (records_among h leaves) = so.is ∙ ap (λ xs. left + length (records_among h xs)) (take_all n leaves past) in
      by left is
    where
      by : (left : ℕ) → count ≡ left + length (records_among h leaves) → (left == 0) ≡ (count == length (records_among h leaves))
      by zero is = sym (eq-eqb count (length (records_among h leaves)) (omega (arith, is)))
      by (suc left) is = ne_eqb (suc left) 0 (λ e. absurd (omega (arith, e))) ∙ sym (ne_eqb count (length (records_among h leaves)) (λ e. absurd (omega (arith, is, e))))
