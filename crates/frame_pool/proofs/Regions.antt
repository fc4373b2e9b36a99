-- What the places of a region hold: as zeros are written to them, as their bytes are read out, and where a part of them is lent.
use Rattle.std.proofs.Common.{◌≡◌, ℕ, zero, suc, ◌+◌, ◌<◌, ◌≤◌, List, [], ◌∷◌, ◌++◌, Option, None, Some, length, map, take, drop, set, get_or, replicate, refl, sym, ap, ◌∙◌, arith, length-append, length-take, length-drop}
use Rattle.std.proofs.lemmas.List.{length-map, length-replicate, map-append, take-map, drop-map, length-take-le}
use Rattle.std.specs.List.{refill, length_refill}
use Rattle.frame_pool.specs.Places.{somes}
use Rattle.frame_pool.specs.Lends.{spliced}
use Rattle.frame_pool.specs.Parts.{part, with_part}

-- i zeros, and m empty places
abbrev pub zeroed : ℕ → ℕ → List (Option ℕ)
zeroed i m = map Some (replicate i 0) ++ replicate m None

pub length-zeroed : (i m : ℕ) → length (zeroed i m) ≡ i + m
length-zeroed i m = length-append (map Some (replicate i 0)) (replicate m None)
    ∙ (λ k. (length-map {A = ℕ} (replicate i 0) Some ∙ length-replicate {A = ℕ} i 0) k + length-replicate {A = Option ℕ} m None k)

pub zeroed-none : (i m : ℕ) → get_or (zeroed i (suc m)) i None ≡ None
zeroed-none zero m = refl
zeroed-none (suc i) m = zeroed-none i m

pub zeroed-set : (i m : ℕ) → set (zeroed i (suc m)) i (Some 0) ≡ zeroed (suc i) m
zeroed-set zero m = refl
zeroed-set (suc i) m = ap (λ l. Some 0 ∷ l) (zeroed-set i m)

-- the places of these bytes, of which the first i were read out
abbrev pub emptied : ℕ → List ℕ → List (Option ℕ)
emptied i xs = replicate i None ++ map Some (drop i xs)

pub length-emptied : (i : ℕ) (xs : List ℕ) → i ≤ length xs → length (emptied i xs) ≡ length xs
length-emptied zero xs h = length-map xs Some
length-emptied (suc i) [] h = absurd (omega arith)
length-emptied (suc i) (x ∷ xs) h = ap suc (length-emptied i xs (omega arith))

pub emptied-some : (i : ℕ) (xs : List ℕ) → i < length xs → (x : ℕ) × (get_or (emptied i xs) i None ≡ Some x)
emptied-some i [] h = absurd (omega arith)
emptied-some zero (x ∷ xs) h = (x, refl)
emptied-some (suc i) (x ∷ xs) h = emptied-some i xs (omega arith)

pub emptied-set : (i : ℕ) (xs : List ℕ) → i < length xs → set (emptied i xs) i None ≡ emptied (suc i) xs
emptied-set i [] h = absurd (omega arith)
emptied-set zero (x ∷ xs) h = refl
emptied-set (suc i) (x ∷ xs) h = ap (λ l. None ∷ l) (emptied-set i xs (omega arith))

pub emptied-all : (xs : List ℕ) → emptied (length xs) xs ≡ replicate (length xs) None
emptied-all [] = refl
emptied-all (x ∷ xs) = ap (λ l. None ∷ l) (emptied-all xs)

pub somes-map : (xs : List ℕ) → somes (map Some xs) ≡ xs
somes-map [] = refl
somes-map (x ∷ xs) = ap (λ l. x ∷ l) (somes-map xs)

pub full_again : (slots : List (Option ℕ)) (xs : List ℕ) → slots ≡ map Some xs → slots ≡ map Some (somes slots)
full_again slots xs e = e ∙ (λ i. map Some (sym (ap somes e ∙ somes-map xs) i))

pub same_values : (xs ys : List ℕ) → map Some xs ≡ map Some ys → xs ≡ ys
same_values xs ys e = sym (somes-map xs) ∙ ap somes e ∙ somes-map ys

module _ (slots : List (Option ℕ)) (v : List ℕ) (at len : ℕ) (full : slots ≡ map Some v) where
  pub run_there : take len (drop at slots) ≡ map Some (part v at len)
  run_there = ap (λ l. take len (drop at l)) full ∙ ap (take len) (drop-map Some at v) ∙ take-map Some len (drop at v)

  pub spliced_full : (w : List ℕ) → spliced slots at len (refill len (somes (take len (drop at slots))) w) ≡ map Some (with_part v at len w)
  spliced_full w =
      let new = refill len (part v at len) w in
      (λ i. spliced (full i) at len (refill len ((ap somes run_there ∙ somes-map (part v at len)) i) w))
      ∙ (λ i. take-map Some at v i ++ (map Some new ++ drop-map Some (at + len) v i))
      ∙ sym (map-append Some (take at v) (new ++ drop (at + len) v) ∙ ap (λ l. map Some (take at v) ++ l) (map-append Some new (drop (at + len) v)))

pub length-part : (v : List ℕ) (at len : ℕ) → at + len ≤ length v → length (part v at len) ≡ len
length-part v at len h = length-take-le len (drop at v) (omega (arith, length-drop at v))

pub length-refilled : (v : List ℕ) (at len : ℕ) (w : List ℕ) → at + len ≤ length v → length (refill len (part v at len) w) ≡ len
length-refilled v at len w h = sym (length_refill len (part v at len) w (sym (length-part v at len h)))

pub length-with_part : (v : List ℕ) (at len : ℕ) (w : List ℕ) → at + len ≤ length v → length (with_part v at len w) ≡ length v
length-with_part v at len w h =
    let new = refill len (part v at len) w in
    omega (arith, length-append (take at v) (new ++ drop (at + len) v), length-append new (drop (at + len) v), length-refilled v at len w h, length-take at v, length-drop (at + len) v)
