-- What a pool's fields say of its frames.
use Rattle.std.proofs.Common.{◌≡◌, ◌≢◌, ℕ, zero, suc, ◌+◌, ◌-◌, ◌*◌, ◌^◌, ◌<◌, ◌≤◌, Bool, true, false, cond, ltb, List, [], Option, None, Some, is_some, length, vec_len, get_or, ◌⊎◌, inl, inr, refl, sym, ap, subst, ◌∙◌, true≢false, arith}
use Rattle.std.proofs.lemmas.Bool.{cases_lt, lt-ltb, le-ltb, ltb-true}
use Rattle.std.proofs.lemmas.Nat.{mul-le}
use Rattle.std.specs.Prelude.{unwrap_or}
use Rattle.std.specs.List.{refill, SwappedAt}
use Rattle.frame_pool.specs.Parts.{with_part}
use Rattle.std.specs.FinMap.{get, remove, empty, contains_key}
use Rattle.finite_maps.specs.Below.{map_below, entered}
use Rattle.finite_maps.proofs.Keys.{in_map, past_map, map_below-insert, map_below-remove}
use Rattle.frame_pool.proofs.Order.{Stands, stands_after, has_place_after, own_in, others_stay}
use Rattle.frame_pool.specs.declared.pool.Pool.TheInside.{Inside}
use Rattle.frame_pool.specs.Frames.{Frames, IsOut, AllOut, Takes, with_bytes, after_give}
use Rattle.frame_pool.specs.Lending.{with_bytes_over}
use Rattle.frame_pool.proofs.Side.{length-frame_at, written_same, written_other}
use Rattle.frame_pool.specs.Inside.{frame_at, bytes_of, frames_of, IsPool}

some_if : {X : Type 0} (b : Bool) (x : X) → is_some (cond b (Some x) None) ≡ true → b ≡ true
some_if true x h = refl
some_if false x h = h

module _ (p : Inside) where
  pub out_tells : (n : ℕ) → IsOut (frames_of p) n → (n < vec_len p.order) × (get_or p.place.items n 0 < p.out)
  out_tells n h = by (cases_lt n (vec_len p.order))
    where
      by : (n < vec_len p.order) ⊎ (vec_len p.order ≤ n) → (n < vec_len p.order) × (get_or p.place.items n 0 < p.out)
      by (inl within) = (within, ltb-true _ _ (some_if (ltb (get_or p.place.items n 0) p.out) (frame_at p.region p.size n) (sym (ap is_some (in_map (bytes_of p) (vec_len p.order) n within)) ∙ h)))
      by (inr past) = absurd (true≢false (sym h ∙ ap is_some (past_map (bytes_of p) (vec_len p.order) n past)))

  pub bytes_are : (n : ℕ) → n < vec_len p.order → get_or p.place.items n 0 < p.out → get (map_below (bytes_of p) (vec_len p.order)) n ≡ Some (frame_at p.region p.size n)
  bytes_are n within is_out = in_map (bytes_of p) (vec_len p.order) n within ∙ ap (λ t. cond t (Some (frame_at p.region p.size n)) None) (lt-ltb _ _ is_out)

  pub none_are : (n : ℕ) → n < vec_len p.order → p.out ≤ get_or p.place.items n 0 → get (map_below (bytes_of p) (vec_len p.order)) n ≡ None
  none_are n within is_in = in_map (bytes_of p) (vec_len p.order) n within ∙ ap (λ t. cond t (Some (frame_at p.region p.size n)) None) (le-ltb _ _ is_in)

is_some_if : {X : Type 0} (b : Bool) (x : X) → b ≡ is_some (cond b (Some x) None)
is_some_if true x = refl
is_some_if false x = refl

module _ (p : Inside) (n m : ℕ) (v : Frames) (view_is : frames_of p ≡ v) (number_is : n ≡ m) where
  pub out_test : n < vec_len p.order → ltb (get_or p.place.items n 0) p.out ≡ contains_key v.out m
  out_test h = is_some_if (ltb (get_or p.place.items n 0) p.out) (frame_at p.region p.size n) ∙ sym (ap is_some (in_map (bytes_of p) (vec_len p.order) n h))
      ∙ (λ i. is_some (get (view_is i).out (number_is i)))

  pub past_test : vec_len p.order ≤ n → false ≡ contains_key v.out m
  past_test h = sym (ap is_some (past_map (bytes_of p) (vec_len p.order) n h)) ∙ (λ i. is_some (get (view_is i).out (number_is i)))

module _ (p : Inside) (n m : ℕ) (v : Frames) (view_is : frames_of p ≡ v) (number_is : n ≡ m) (is_out : IsOut v m) where
  pub out_inside : (n < vec_len p.order) × (get_or p.place.items n 0 < p.out)
  out_inside = out_tells p n (subst (λ u. IsOut u n) (sym view_is) (subst (λ k. IsOut v k) (sym number_is) is_out))

  pub bytes_inside : get v.out m ≡ Some (frame_at p.region p.size n)
  bytes_inside = subst (λ u. get u.out m ≡ Some (frame_at p.region p.size n)) view_is
      (subst (λ k. get (frames_of p).out k ≡ Some (frame_at p.region p.size n)) number_is (bytes_are p n out_inside.0 out_inside.1))

one_more : (k out : ℕ) → k ≢ out → ltb k (out + 1) ≡ ltb k out
one_more k out ne = by (cases_lt k out)
  where
    by : (k < out) ⊎ (out ≤ k) → ltb k (out + 1) ≡ ltb k out
    by (inl h) = lt-ltb k (out + 1) (omega arith) ∙ sym (lt-ltb k out h)
    by (inr h) = le-ltb k (out + 1) (omega arith) ∙ sym (le-ltb k out h)

-- a frame's bytes are written: every other is as it was
pub frames_of-written : (p : Inside) (n : ℕ) (w : List ℕ) → n < vec_len p.order → length p.region ≡ vec_len p.order * p.size → get_or p.place.items n 0 < p.out
    → frames_of (record p { region = with_part p.region (n * p.size) p.size w }) ≡ with_bytes_over (frames_of p) n w
frames_of-written p n w within all is_out =
    let region = with_part p.region (n * p.size) p.size w in
    let laid = refill p.size (frame_at p.region p.size n) w in
    let new : ℕ → Option (List ℕ) = bytes_of (record p { region = region }) in
    let at : new n ≡ Some laid = ap (λ t. cond t (Some (frame_at region p.size n)) None) (lt-ltb _ _ is_out) ∙ ap Some (written_same p.size (vec_len p.order) p.region all n w within) in
    let out = map_below-insert (bytes_of p) new (vec_len p.order) n laid within at
    (λ q h ne. ap (λ r. cond (ltb (get_or p.place.items q 0) p.out) (Some r) None) (written_other p.size (vec_len p.order) p.region all n w within q ne)) in
    (λ i. record { count = vec_len p.order; size = p.size; out = out i })
    ∙ (λ i. with_bytes (frames_of p) n (refill p.size (unwrap_or (sym (bytes_are p n within is_out) i) []) w))

pub no_overflow : (p : Inside) (ok : IsPool p) (n : ℕ) → n < vec_len p.order → n * p.size < 2 ^ 64
no_overflow p ok n h = omega (arith, mul-le n p.size 4096 4096 (omega (arith, ok.few)) ok.short)

-- one frame more is out: the first in the order of those that are in
pub frames_of-taken : (p : Inside) (ok : IsPool p) → p.out < vec_len p.order
    → frames_of (record p { out = p.out + 1 }) ≡ with_bytes (frames_of p) (get_or p.order.items p.out 0) (frame_at p.region p.size (get_or p.order.items p.out 0))
frames_of-taken p ok room =
    let n = get_or p.order.items p.out 0 in
    let first = ok.stands p.out room in
    let new : ℕ → Option (List ℕ) = bytes_of (record p { out = p.out + 1 }) in
    let at : new n ≡ Some (frame_at p.region p.size n) = ap (λ t. cond t (Some (frame_at p.region p.size n)) None) (ap (λ k. ltb k (p.out + 1)) first.1 ∙ lt-ltb p.out (p.out + 1) (omega arith)) in
    let out = map_below-insert (bytes_of p) new (vec_len p.order) n (frame_at p.region p.size n) first.0 at
    (λ q h ne. ap (λ t. cond t (Some (frame_at p.region p.size q)) None)
    (one_more (get_or p.place.items q 0) p.out (λ e. ne (sym (ok.has_place q h).1 ∙ ap (λ k. get_or p.order.items k 0) e)))) in
    λ i. record { count = vec_len p.order; size = p.size; out = out i }

-- a frame is out no more, and every other is where it was
pub frames_of-given : (p p' : Inside) (n : ℕ) → n < vec_len p.order → vec_len p'.order ≡ vec_len p.order → p'.size ≡ p.size → p'.region ≡ p.region
    → ltb (get_or p'.place.items n 0) p'.out ≡ false
    → ((q : ℕ) → q < vec_len p.order → q ≢ n → ltb (get_or p'.place.items q 0) p'.out ≡ ltb (get_or p.place.items q 0) p.out)
    → frames_of p' ≡ after_give (frames_of p) n
frames_of-given p p' n within count size region own others =
    let out : map_below (bytes_of p') (vec_len p.order) ≡ remove (map_below (bytes_of p) (vec_len p.order)) n =
    map_below-remove (bytes_of p) (bytes_of p') (vec_len p.order) n within
    (ap (λ t. cond t (Some (frame_at p'.region p'.size n)) None) own)
    (λ q h ne. λ i. cond (others q h ne i) (Some (frame_at (region i) (size i) q)) None) in
    (λ i. record { count = count i; size = size i; out = map_below (bytes_of p') (count i) }) ∙ (λ i. record { count = vec_len p.order; size = p.size; out = out i })

none_entered : (f : ℕ → Option (List ℕ)) (n : ℕ) → ((q : ℕ) → f q ≡ None) → map_below f n ≡ empty
none_entered f zero h = refl
none_entered f (suc n) h = ap (λ o. entered n o (map_below f n)) (h n) ∙ none_entered f n h

-- a new pool has no frame out
pub none_out : (p : Inside) → p.out ≡ 0 → map_below (bytes_of p) (vec_len p.order) ≡ empty
none_out p e = none_entered (bytes_of p) (vec_len p.order)
    (λ q. ap (λ t. cond t (Some (frame_at p.region p.size q)) None) (ap (λ k. ltb (get_or p.place.items q 0) k) e ∙ le-ltb _ 0 (omega arith)))

module _ (p : Inside) (ok : IsPool p) (v : Frames) (view_is : frames_of p ≡ v) where
  pub all_out : vec_len p.order ≤ p.out → AllOut v
  all_out none = subst AllOut view_is (λ n h. ap is_some (bytes_are p n h (omega (arith, (ok.has_place n h).0, none))))

  pub some_in : p.out < vec_len p.order → AllOut v → ⊥
  some_in room all =
      let first = ok.stands p.out room in
      let tells = out_tells p (get_or p.order.items p.out 0) (subst AllOut (sym view_is) all (get_or p.order.items p.out 0) first.0) in
      omega (arith, first.1, tells.1)

  pub takes : p.out < vec_len p.order → (n : ℕ) → n ≡ get_or p.order.items p.out 0 → Takes v (frames_of (record p { out = p.out + 1 })) n
  takes room n e =
      let first = ok.stands p.out room in
      let at = get_or p.order.items p.out 0 in
      let still : p.out ≤ get_or p.place.items at 0 = omega (arith, first.1) in
      let base : Takes (frames_of p) (frames_of (record p { out = p.out + 1 })) at = record {
        bytes = frame_at p.region p.size at;
        within = first.0;
        whole = length-frame_at p.size (vec_len p.order) p.region ok.region at first.0;
        was_in = none_are p at first.0 still;
        taken = frames_of-taken p ok room;
      } in
      subst (λ u. Takes u (frames_of (record p { out = p.out + 1 })) n) view_is (subst (λ k. Takes (frames_of p) (frames_of (record p { out = p.out + 1 })) k) (sym e) base)

-- the frame n, which is out, changed places with the last that is out
module _ (p p' : Inside) (ok : IsPool p) (n at moved : ℕ) (within : n < vec_len p.order) (is_out : get_or p.place.items n 0 < p.out)
    (at_is : at ≡ get_or p.place.items n 0) (moved_is : moved ≡ get_or p.order.items (p.out - 1) 0)
    (order_is : SwappedAt p.order.items p'.order.items at (p.out - 1)) (place_is : SwappedAt p.place.items p'.place.items n moved)
    (order_len : vec_len p'.order ≡ vec_len p.order) (place_len : vec_len p'.place ≡ vec_len p.place)
    (same_region : p'.region ≡ p.region) (same_size : p'.size ≡ p.size) (out_is : p'.out ≡ p.out - 1) where
  abbrev read : List ℕ → ℕ → ℕ
  read xs k = get_or xs k 0

  o-at : read p'.order.items (read p.place.items n) ≡ read p.order.items (p.out - 1)
  o-at = subst (λ a. read p'.order.items a ≡ read p.order.items (p.out - 1)) at_is (order_is.0 0)

  o-last : read p'.order.items (p.out - 1) ≡ read p.order.items (read p.place.items n)
  o-last = subst (λ a. read p'.order.items (p.out - 1) ≡ read p.order.items a) at_is (order_is.1 0)

  o-other : (k : ℕ) → k ≢ read p.place.items n → k ≢ p.out - 1 → read p'.order.items k ≡ read p.order.items k
  o-other k ne ne' = order_is.2 k 0 (λ e. ne (e ∙ at_is)) ne'

  pl-own : read p'.place.items n ≡ read p.place.items (read p.order.items (p.out - 1))
  pl-own = subst (λ m. read p'.place.items n ≡ read p.place.items m) moved_is (place_is.0 0)

  pl-moved : read p'.place.items (read p.order.items (p.out - 1)) ≡ read p.place.items n
  pl-moved = subst (λ m. read p'.place.items m ≡ read p.place.items n) moved_is (place_is.1 0)

  pl-other : (k : ℕ) → k ≢ n → k ≢ read p.order.items (p.out - 1) → read p'.place.items k ≡ read p.place.items k
  pl-other k ne ne' = place_is.2 k 0 ne (λ e. ne' (e ∙ moved_is))

  stood : Stands (vec_len p.order) (read p'.order.items) (read p'.place.items)
  stood = stands_after (vec_len p.order) p.out n (read p.order.items) (read p.place.items) (read p'.order.items) (read p'.place.items)
      ok.stands ok.has_place within is_out ok.some_out o-at o-last o-other pl-own pl-moved pl-other

  placed : Stands (vec_len p.order) (read p'.place.items) (read p'.order.items)
  placed = has_place_after (vec_len p.order) p.out n (read p.order.items) (read p.place.items) (read p'.order.items) (read p'.place.items)
      ok.stands ok.has_place within is_out ok.some_out o-at o-last o-other pl-own pl-moved pl-other

  own : ltb (read p'.place.items n) (p.out - 1) ≡ false
  own = own_in (vec_len p.order) p.out n (read p.order.items) (read p.place.items) (read p'.order.items) (read p'.place.items)
      ok.stands ok.has_place within is_out ok.some_out o-at o-last o-other pl-own pl-moved pl-other

  others : (q : ℕ) → q < vec_len p.order → q ≢ n → ltb (read p'.place.items q) (p.out - 1) ≡ ltb (read p.place.items q) p.out
  others = others_stay (vec_len p.order) p.out n (read p.order.items) (read p.place.items) (read p'.order.items) (read p'.place.items)
      ok.stands ok.has_place within is_out ok.some_out o-at o-last o-other pl-own pl-moved pl-other

  pub given_ok : IsPool p'
  given_ok = record {
    few = subst (λ k. k ≤ 4096) (sym order_len) ok.few;
    short = subst (λ k. k ≤ 4096) (sym same_size) ok.short;
    region = ap length same_region ∙ ok.region ∙ (λ i. sym order_len i * sym same_size i);
    placed = place_len ∙ ok.placed ∙ sym order_len;
    some_out = subst (λ k. k ≤ vec_len p'.order) (sym out_is) (subst (λ k. p.out - 1 ≤ k) (sym order_len) (omega (arith, ok.some_out)));
    stands = subst (λ k. Stands k (read p'.order.items) (read p'.place.items)) (sym order_len) stood;
    has_place = subst (λ k. Stands k (read p'.place.items) (read p'.order.items)) (sym order_len) placed;
  }

  pub given_frames : frames_of p' ≡ after_give (frames_of p) n
  given_frames = frames_of-given p p' n within order_len same_size same_region
      (ap (ltb (read p'.place.items n)) out_is ∙ own) (λ q h ne. ap (ltb (read p'.place.items q)) out_is ∙ others q h ne)
