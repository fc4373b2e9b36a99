-- Blocks that are away, and how many: one fewer once one is sent, as many once those that were sent are home.
use Rattle.std.proofs.Common.{◌≡◌, ◌<◌, ◌+◌, ℕ, Bool, true, false, List, Option, None, Some, refl, sym, ap, ◌∙◌, arith}
use Rattle.std.specs.FinMap as table
use Rattle.std.specs.Ordering.{nat_cmp}
use Rattle.std.proofs.lemmas.Cmp.{nat_cmp_total}
use Rattle.fixed_tables.specs.Fixed.{left_by}
use Rattle.log_memory.specs.Locks.{NoneIsAway}
use Rattle.log_memory.specs.Rows.{is_away}
use Rattle.log_tables.specs.Versions.Way.{Away, Flying, Home}
use Rattle.log_tables.proofs.Counting.{gone, insert_removed, one, passing, passing_with, passing_without}
use Rattle.log_tables.proofs.Taking.{count-only, get-only, only}
use Rattle.log_values.specs.Flushing.{settled, settled_way}
use Rattle.log_values.specs.Homing.{Settles}
use Rattle.log_values.specs.Log.{Entry, LogValue, Way}
use Rattle.logged_node.specs.Homing.{waiting}
use Rattle.logged_node.proofs.Blocks.{none_some, some_same}

abbrev Live : Type 0
Live = table.FinMap nat_cmp Entry

abbrev waits : Entry → Bool
waits e = is_away e.way

-- ---- one is sent

with_put : (live : Live) (b : ℕ) (e : Entry) → passing waits (table.insert live b e) ≡ one (waits e) + passing waits (table.remove live b)
with_put live b e = ap (passing waits) (sym (insert_removed live b e)) ∙ passing_with waits (table.remove live b) b e (gone live b)

pub one_fewer : (log new : LogValue) (b : ℕ) (e d : Entry) → table.get log.live b ≡ Some e → is_away e.way ≡ true → is_away d.way ≡ false → new.live ≡ table.insert log.live b d → waiting new < waiting log
one_fewer log new b e d at away sent is =
    less _ _ _ _ _ (passing_without waits log.live b e at) (ap (passing waits) is ∙ with_put log.live b d) (ap one away) (ap one sent)
  where
    less : (a c r x y : ℕ) → a ≡ x + r → c ≡ y + r → x ≡ 1 → y ≡ 0 → c < a
    less a c r x y p q s t = omega arith

-- ---- what was sent is home

stays_waiting : (o : Option Entry) → left_by waits (settled o) ≡ left_by waits o
stays_waiting None = refl
stays_waiting (Some e) = by e.way
  where
    by : (w : Way) → left_by waits (Some (record e { way = settled_way w })) ≡ left_by waits (Some (record e { way = w }))
    by Home = refl
    by (Away bytes) = refl
    by (Flying bytes) = refl

pub as_many : (log new : LogValue) → Settles log new → waiting new ≡ waiting log
as_many log new settles = count-only waits new.live ∙ ap table.len (table.same_map nat_cmp_total table.nat_cmp-IsAntisymmetric (only waits new.live) (only waits log.live) same) ∙ sym (count-only waits log.live)
  where
    same : (b : ℕ) → table.get (only waits new.live) b ≡ table.get (only waits log.live) b
    same b = get-only waits new.live b ∙ ap (left_by waits) (settles.settles b) ∙ stays_waiting (table.get log.live b) ∙ sym (get-only waits log.live b)

-- none is away then that wasn't
was_away : (o : Option Entry) (e : Entry) (bytes : List ℕ) → settled o ≡ Some e → e.way ≡ Away bytes → o ≡ Some e
was_away None e bytes is away = absurd (none_some is)
was_away (Some x) e bytes is away = by x.way refl
  where
    same : record x { way = settled_way x.way } ≡ e
    same = some_same is

    by : (w : Way) → x.way ≡ w → Some x ≡ Some e
    by Home at = absurd (let h : Home ≡ Away bytes = sym (ap settled_way at) ∙ ap (λ (y : Entry). y.way) same ∙ away in cc)
    by (Away a) at = ap (λ (w : Way). Some (record x { way = w })) (at ∙ sym (ap settled_way at)) ∙ ap (λ (y : Entry). Some y) same
    by (Flying a) at = absurd (let h : Home ≡ Away bytes = sym (ap settled_way at) ∙ ap (λ (y : Entry). y.way) same ∙ away in cc)

pub none_away_still : (log new : LogValue) → Settles log new → NoneIsAway log → NoneIsAway new
none_away_still log new settles none lock b bytes away =
    none lock b bytes (record { entry = away.entry; live = was_away (table.get log.live b) away.entry bytes (sym (settles.settles b) ∙ away.live) away.away; under = away.under; away = away.away })
