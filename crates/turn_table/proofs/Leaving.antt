-- What a seat is after the steps of a leave.
use Rattle.std.proofs.Common.{◌≡◌, ◌≢◌, ℕ, ◌<◌, List, ◌∷◌, Option, Some, None, sym, ap, ◌∙◌, subst}
use Rattle.atomic_table.specs.Table.{rest}
use Rattle.atomic_table.specs.Seated.{TableId}
use Rattle.turn_table.specs.Sitting.{Sitting}
use Rattle.turn_table.specs.Notes.{noted, without, brought, keys, emptied, AllBelow}
use Rattle.turn_table.specs.Playing.{Sat, standing, left, Gave, GaveSecond, MayGive, MayGiveSecond}
use Rattle.turn_table.proofs.Noting.{brought_is, noted_else, noted-without_else, without_else, keys-without, keys-emptied, noted-emptied, without-emptied, AllBelow-without}

pub front_after : {Y : Type 0} (c c' : List (ℕ × Y)) (p : ℕ) (y : Y) → noted p c ≡ Some y → c' ≡ brought p c → c' ≡ (p, y) ∷ rest c'
front_after c c' p y n is = let e : c' ≡ (p, y) ∷ without p c = is ∙ brought_is p c y n in e ∙ ap (λ (w : List (ℕ × _)). (p, y) ∷ w) (sym (ap rest e))

module _ {V : Type 0} where
  -- the seat with the turn of p and its slot in front, and a value in the slot
  abbrev pub Landed : ℕ → V → V → Sat V → Sat V
  Landed p v y m = (standing m.0.share m.0.seen ((p, v) ∷ without p m.0.turns), (p, Some y) ∷ without p m.1)

  pub lands : (m m₁ m₂ : Sat V) (p : ℕ) (v y : V) → m₁ ≡ (standing m.0.share m.0.seen (brought p m.0.turns), brought p m.1) → m₂ ≡ (m₁.0, (p, Some y) ∷ rest m₁.1)
      → noted p m.1 ≡ Some None → noted p m.0.turns ≡ Some v → m₂ ≡ Landed p v y m
  lands m m₁ m₂ p v y first second slot turn =
      let turns : brought p m.0.turns ≡ (p, v) ∷ without p m.0.turns = brought_is p m.0.turns v turn in
      let slots : rest m₁.1 ≡ without p m.1 = ap (λ (x : Sat V). rest x.1) first ∙ ap rest (brought_is p m.1 None slot) in
      let seat : m₁.0 ≡ standing m.0.share m.0.seen ((p, v) ∷ without p m.0.turns) = ap (λ (x : Sat V). x.0) first ∙ (λ i. standing m.0.share m.0.seen (turns i)) in
      second ∙ (λ i. (seat i, (p, Some y) ∷ slots i))

  -- a seat of which all slots are empty
  abbrev pub AllEmpty : Sat V → Type 0
  AllEmpty m = m.1 ≡ emptied m.0.turns

  pub empty_slot : (m : Sat V) (p : ℕ) (v : V) → AllEmpty m → noted p m.0.turns ≡ Some v → noted p m.1 ≡ Some None
  empty_slot m p v e n = ap (noted p) e ∙ noted-emptied p m.0.turns v n

  pub tied_slots : (m : Sat V) → AllEmpty m → keys m.1 ≡ keys m.0.turns
  tied_slots m e = ap keys e ∙ keys-emptied m.0.turns

  pub may_leave : (alone : V → V → Type 0) (m m₂ : Sat V) (p : ℕ) (v y : V) → m₂ ≡ Landed p v y m → alone v y → MayGive alone p m₂
  may_leave alone m m₂ p v y e may = (v, y, without p m.0.turns, without p m.1, ap (λ (x : Sat V). x.0.turns) e, ap (λ (x : Sat V). x.1) e, may)

  -- the seat after a leave
  abbrev pub After : ℕ → V → Sat V → Sat V
  After p y m = (left p y (without p m.0.turns) m.0, without p m.1)

  pub leaves : (m m₂ m₃ : Sat V) (p : ℕ) (v y : V) → m₂ ≡ Landed p v y m → Gave m₂ m₃ → m₃ ≡ After p y m
  leaves m m₂ m₃ p v y e gave =
      gave p v y (without p m.0.turns) (without p m.1) (ap (λ (x : Sat V). x.0.turns) e) (ap (λ (x : Sat V). x.1) e)
      ∙ (λ i. (standing (e i).0.share ((p, y) ∷ (e i).0.seen) (without p m.0.turns), without p m.1))

  -- what holds of a seat between calls
  abbrev pub Settled : ℕ → Sat V → Type 0
  Settled n m = AllEmpty m × (0 < m.0.share) × AllBelow n m.0.turns

  pub settles : (n : ℕ) (m m' : Sat V) (p : ℕ) (y : V) → m' ≡ After p y m → Settled n m → Settled n m'
  settles n m m' p y e s =
      let slots : without p m.1 ≡ emptied (without p m.0.turns) = ap (without p) s.0 ∙ without-emptied p m.0.turns in
      subst (Settled n) (sym e) (slots, s.1, AllBelow-without n p m.0.turns s.2)

  pub settles_both : (n : ℕ) (m m' : Sat V) (a b : ℕ) (x y : V) → m' ≡ (standing m.0.share ((a, x) ∷ (b, y) ∷ m.0.seen) (without b (without a m.0.turns)), without b (without a m.1)) → Settled n m → Settled n m'
  settles_both n m m' a b x y e s =
      let slots₁ : without a m.1 ≡ emptied (without a m.0.turns) = ap (without a) s.0 ∙ without-emptied a m.0.turns in
      let slots₂ : without b (without a m.1) ≡ emptied (without b (without a m.0.turns)) = ap (without b) slots₁ ∙ without-emptied b (without a m.0.turns) in
      subst (Settled n) (sym e) (slots₂, s.1, AllBelow-without n b (without a m.0.turns) (AllBelow-without n a m.0.turns s.2))

  -- the same of two turns: first a, then b is put back
  module _ (m m₂ : Sat V) (a : ℕ) (va x : V) (first : m₂ ≡ Landed a va x m) (b : ℕ) (two : a ≢ b) where
    pub tied_again : AllEmpty m → keys m₂.1 ≡ keys m₂.0.turns
    tied_again e = ap (λ (s : Sat V). keys s.1) first ∙ (ap (λ (ks : List ℕ). a ∷ ks) (keys-without a m.1 m.0.turns (tied_slots m e)) ∙ sym (ap (λ (s : Sat V). keys s.0.turns) first))

    pub turn_again : (vb : V) → noted b m.0.turns ≡ Some vb → noted b m₂.0.turns ≡ Some vb
    turn_again vb n = ap (λ (s : Sat V). noted b s.0.turns) first ∙ (noted_else b (a, va) (without a m.0.turns) (λ e. two (sym e)) ∙ (noted-without_else b a (λ e. two (sym e)) m.0.turns ∙ n))

    pub slot_again : noted b m.1 ≡ Some None → noted b m₂.1 ≡ Some None
    slot_again n = ap (λ (s : Sat V). noted b s.1) first ∙ (noted_else b (a, Some x) (without a m.1) (λ e. two (sym e)) ∙ (noted-without_else b a (λ e. two (sym e)) m.1 ∙ n))

    -- both turns and slots lie in front
    both_turns : without b m₂.0.turns ≡ (a, va) ∷ without b (without a m.0.turns)
    both_turns = ap (λ (s : Sat V). without b s.0.turns) first ∙ without_else b (a, va) (without a m.0.turns) two

    both_slots : without b m₂.1 ≡ (a, Some x) ∷ without b (without a m.1)
    both_slots = ap (λ (s : Sat V). without b s.1) first ∙ without_else b (a, Some x) (without a m.1) two

    module _ (m₃ : Sat V) (vb y : V) (second : m₃ ≡ Landed b vb y m₂) where
      turns₃ : m₃.0.turns ≡ (b, vb) ∷ (a, va) ∷ without b (without a m.0.turns)
      turns₃ = ap (λ (s : Sat V). s.0.turns) second ∙ ap (λ (ts : List (ℕ × V)). (b, vb) ∷ ts) both_turns

      slots₃ : m₃.1 ≡ (b, Some y) ∷ (a, Some x) ∷ without b (without a m.1)
      slots₃ = ap (λ (s : Sat V). s.1) second ∙ ap (λ (ts : List (ℕ × Option V)). (b, Some y) ∷ ts) both_slots

      pub may_leave_second : (paired : V → V → V → V → Type 0) → paired va vb x y → MayGiveSecond paired b m₃
      may_leave_second paired may = (a, vb, va, y, x, without b (without a m.0.turns), without b (without a m.1), two, turns₃, slots₃, may)

      module _ (m₄ : Sat V) (gave : GaveSecond m₃ m₄) where
        after_second : m₄ ≡ (left b y ((a, x) ∷ without b (without a m.0.turns)) m₃.0, (a, Some x) ∷ without b (without a m.1))
        after_second = gave b a vb va y x (without b (without a m.0.turns)) (without b (without a m.1)) turns₃ slots₃

        pub may_leave_first : (alone : V → V → Type 0) → ((v : V) → alone v v) → MayGive alone a m₄
        may_leave_first alone unchanged = (x, x, without b (without a m.0.turns), without b (without a m.1), ap (λ (s : Sat V). s.0.turns) after_second, ap (λ (s : Sat V). s.1) after_second, unchanged x)

        -- the seat after both leaves
        pub leaves_both : (m₅ : Sat V) → Gave m₄ m₅
            → m₅ ≡ (standing m.0.share ((a, x) ∷ (b, y) ∷ m.0.seen) (without b (without a m.0.turns)), without b (without a m.1))
        leaves_both m₅ gave' =
            let share₂ = ap (λ (s : Sat V). s.0.share) first in let seen₂ = ap (λ (s : Sat V). s.0.seen) first in
            let share₃ = ap (λ (s : Sat V). s.0.share) second ∙ share₂ in let seen₃ = ap (λ (s : Sat V). s.0.seen) second ∙ seen₂ in
            gave' a x x (without b (without a m.0.turns)) (without b (without a m.1)) (ap (λ (s : Sat V). s.0.turns) after_second) (ap (λ (s : Sat V). s.1) after_second)
            ∙ ((λ i. (left a x (without b (without a m.0.turns)) (after_second i).0, without b (without a m.1)))
            ∙ (λ i. (standing (share₃ i) ((a, x) ∷ (b, y) ∷ seen₃ i) (without b (without a m.0.turns)), without b (without a m.1))))

  abbrev pub sitting : TableId → Sat V → Sitting V
  sitting z m = record { table = z; share = m.0.share; seen = m.0.seen; turns = m.0.turns }

  -- what a contract sees of the seat after both leaves
  pub seen_after_both : (z z' : TableId) (now : Sitting V) (m m' : Sat V) (a b a' b' : ℕ) (x y x' y' : V) (slots : List (ℕ × Option V)) → z' ≡ z → sitting z m ≡ now
      → m' ≡ (standing m.0.share ((a, x) ∷ (b, y) ∷ m.0.seen) (without b (without a m.0.turns)), slots) → a ≡ a' → b ≡ b' → x ≡ x' → y ≡ y'
      → sitting z' m' ≡ record now { seen = (a', x') ∷ (b', y') ∷ now.seen; turns = without b' (without a' now.turns) }
  seen_after_both z z' now m m' a b a' b' x y x' y' slots z_is now_is e a_is b_is x_is y_is =
      (λ i. sitting (z_is i) (e i))
      ∙ (λ i. record { table = (now_is i).table; share = (now_is i).share; seen = (a_is i, x_is i) ∷ (b_is i, y_is i) ∷ (now_is i).seen; turns = without (b_is i) (without (a_is i) (now_is i).turns) })
