-- Plans, and how making an image ends.
use Rattle.std.proofs.Common.{ℕ, ◌≡◌, ◌≤◌, List, refl, ap, sym, ◌∙◌, subst, arith, Bool, true, false}
use Rattle.std.specs.Prelude.{Option, None, Some, Result, Ok, Err, OnOk, IfErr, OnErr, nat_le, ◌&&◌, if◌then◌else◌}
use Rattle.std.proofs.lemmas.Bool.Decides.{nat_tests}
use Rattle.shared_disk.specs.Disk.{DiskState, Operation}
use Rattle.mkgfs2_tool.specs.Groups.{data_blocks, last_group, all_data}
use Rattle.mkgfs2_tool.specs.Order.{fits, taken, IsNeeded}
use Rattle.mkgfs2_tool.specs.Making.{bad_option, is_between, plan_of, IsPlan, IsFitting, IsFaultOf}
use Rattle.mkgfs2_tool.specs.Outcomes.{IsBegun, IsMade, PlanEnding, HasFailed, HasMade, Ending, IsRefused, IsTooSmall, IsTried}
use Rattle.mkgfs2_tool.specs.declared.plan.Plan.{Plan}
use Rattle.mkgfs2_tool.specs.declared.options.MakeOptions.{MakeOptions}
use Rattle.mkgfs2_tool.specs.declared.options.Opt.{Opt}
use Rattle.mkgfs2_tool.specs.declared.options.Opt.TheVariants as opt
use Rattle.mkgfs2_tool.specs.declared.options.MakeFault.{MakeFault}
use Rattle.mkgfs2_tool.specs.declared.options.MakeFault.TheVariants.{TooSmall, BadOption}
use Rattle.gfs2_layout.specs.Device.{IsBlockSize}

pub plan_is : (size count : ℕ) (o : MakeOptions) → bad_option o ≡ None → IsBlockSize size → count ≤ 131072 → IsPlan (plan_of size count o)
plan_is size count o good size_is few = by_tests (is_between 1 8 o.journals) (is_between 512 65536 o.journal_blocks) (is_between 1 64 o.groups) refl refl refl good
  where
    by_tests : (a b c : Bool) → is_between 1 8 o.journals ≡ a → is_between 512 65536 o.journal_blocks ≡ b → is_between 1 64 o.groups ≡ c
        → (if a then (if b then (if c then None else Some opt.Groups) else Some opt.JournalBlocks) else Some opt.Journals) ≡ None → IsPlan (plan_of size count o)
    by_tests true true true a b c none = record {
      size = size_is;
      count = omega (arith, few);
      some_journals = grind (arith, nat_tests, a);
      journals = grind (arith, nat_tests, a);
      some_journal_blocks = grind (arith, nat_tests, b);
      journal_blocks = grind (arith, nat_tests, b);
      some_groups = grind (arith, nat_tests, c);
      groups = grind (arith, nat_tests, c);
    }
    by_tests true true false a b c none = let never : ⊥ = cc in elim never [ ]
    by_tests true false c a b d none = let never : ⊥ = cc in elim never [ ]
    by_tests false b c a d e none = let never : ⊥ = cc in elim never [ ]

pub fitting : (p : Plan) → IsPlan p → p.count ≤ 131072 → fits p ≡ true → IsFitting p
fitting p plan few is = by_tests (nat_le 4 (data_blocks p 0)) (nat_le 4 (data_blocks p (last_group p))) (nat_le (taken p) (all_data p)) refl refl refl is
  where
    by_tests : (a b c : Bool) → nat_le 4 (data_blocks p 0) ≡ a → nat_le 4 (data_blocks p (last_group p)) ≡ b → nat_le (taken p) (all_data p) ≡ c → (a && b && c) ≡ true → IsFitting p
    by_tests true true true a b c all =
        record { plan = plan; count = few; first = grind (arith, nat_tests, a); last = grind (arith, nat_tests, b); room = grind (arith, nat_tests, c) }
    by_tests true true false a b c all = let never : ⊥ = cc in elim never [ ]
    by_tests true false c a b d all = let never : ⊥ = cc in elim never [ ]
    by_tests false b c a d e all = let never : ⊥ = cc in elim never [ ]

pub plan_ending : (p : Plan) (old now : DiskState) (list list_now : Option (List Operation)) (faults faults_now : ℕ → ℕ) (r : Result (Unit {0}) MakeFault)
    → OnOk r (IsMade p old now list list_now) → OnErr r (IsBegun p old now list list_now) → IfErr r (IsFaultOf old.count faults faults_now)
    → PlanEnding p old now list list_now faults faults_now r
plan_ending p old now list list_now faults faults_now (Ok t) made begun cause = HasMade made
plan_ending p old now list list_now faults faults_now (Err fault) made begun cause = HasFailed fault cause begun

pub same_plan : (p : Plan) (size size' count count' : ℕ) (o : MakeOptions) → p ≡ plan_of size count o → size ≡ size' → count ≡ count' → p ≡ plan_of size' count' o
same_plan p size size' count count' o is size_is count_is = is ∙ ap (λ n. plan_of n count o) size_is ∙ ap (λ n. plan_of size' n o) count_is

-- ---- the whole call, over a plan that is that of the options

pub refused : (o : MakeOptions) (s : DiskState) (list : Option (List Operation)) (faults : ℕ → ℕ) (opt : Opt) → bad_option o ≡ Some opt → Ending o s s list list faults faults (Err (BadOption opt))
refused o s list faults opt bad = IsRefused opt bad (record { state_is = refl; list_is = refl; faults_are = refl })

pub too_small : (o : MakeOptions) (s : DiskState) (list : Option (List Operation)) (faults : ℕ → ℕ) (p : Plan) (needed : ℕ) → p ≡ plan_of s.size s.count o → bad_option o ≡ None
    → fits p ≡ false → IsNeeded p needed → Ending o s s list list faults faults (Err (TooSmall needed p.count))
too_small o s list faults p needed is good lacks least =
    subst (λ n. Ending o s s list list faults faults (Err (TooSmall needed n))) (sym (ap (λ (q : Plan). q.count) is))
    (IsTooSmall needed good (sym (ap fits is) ∙ lacks) (subst (λ q. IsNeeded q needed) is least) (record { state_is = refl; list_is = refl; faults_are = refl }))

pub tried : (o : MakeOptions) (s now : DiskState) (list list_now : Option (List Operation)) (faults faults_now : ℕ → ℕ) (p : Plan) (r : Result (Unit {0}) MakeFault)
    → p ≡ plan_of s.size s.count o → bad_option o ≡ None → fits p ≡ true → PlanEnding p s now list list_now faults faults_now r → Ending o s now list list_now faults faults_now r
tried o s now list list_now faults faults_now p r is good room ending =
    IsTried r good (sym (ap fits is) ∙ room) (subst (λ q. PlanEnding q s now list list_now faults faults_now r) is ending)

-- the plan, once it is known to be that of the options
pub good_plan : (p : Plan) (size count : ℕ) (o : MakeOptions) → p ≡ plan_of size count o → bad_option o ≡ None → IsBlockSize size → count ≤ 131072 → IsPlan p
good_plan p size count o is good size_is few = subst IsPlan (sym is) (plan_is size count o good size_is few)

pub fitting_plan : (p : Plan) (size count : ℕ) (o : MakeOptions) → p ≡ plan_of size count o → bad_option o ≡ None → IsBlockSize size → count ≤ 131072
    → fits p ≡ true → IsFitting p
fitting_plan p size count o is good size_is few room =
    fitting p (good_plan p size count o is good size_is few) (subst (λ (q : Plan). q.count ≤ 131072) (sym is) few) room
