-- The steps of a write, one after another, over a view.
use Rattle.std.proofs.Common.{◌≡◌, Bool, true, false, Option, None, Some, Result, Ok, Err, ℕ, List, [], ◌++◌, length, refl, ap, ◌∙◌, subst, arith}
use Rattle.std.proofs.lemmas.List.{length-append}
use Rattle.std.specs.FinMap.{FinMap, empty}
use Rattle.std.specs.Ordering.{nat_cmp}
use Rattle.drafts.specs.Fates.{AreWhole, Drafted, seen_in, seen_with}
use Rattle.std.specs.Prelude.{IfSome}
use Rattle.drafts.specs.declared.change.Change.{Change}
use Rattle.drafts.specs.declared.fate.Fate.{Fate}
use Rattle.glock_names.specs.Steps.{IfIs, IfNeedBlock}
use Rattle.glock_names.specs.declared.steps.CallFault.{CallFault}
use Rattle.glock_names.specs.declared.steps.Missing.{Missing}
use Rattle.glock_names.specs.declared.steps.Step.{Step}
use Rattle.glock_names.specs.declared.steps.Step.TheVariants.{Is, NeedBlock}
use Rattle.glock_names.proofs.StepLaws.{answer_so}
use Rattle.gfs2_layout.specs.Holding.{Holding}
use Rattle.glock_names.specs.Views.{Seen}
use Rattle.dinode_tree.specs.Shown.{IsShown}
use Rattle.growth_drafts.specs.Touched.{Follows}
use Rattle.file_cuts.specs.Written.{CanWrite, HasWritten}
use Rattle.resource_groups.specs.Taking.{AreTaken, KeepsBlocks}
use Rattle.file_changes.specs.Drafting.{GetsTime, TakesIn, WritesFile}

-- blocks that are taken in a draft over the view
pub takes_in : {V : Type 0} (seen : V → Seen) (view : V) (old new : Drafted V) (blocks : List ℕ) → old.view ≡ view → AreTaken seen old new blocks → KeepsBlocks seen old new blocks
    → TakesIn (seen view) old.fates new.fates blocks
takes_in {V} seen view old new blocks over taken rest =
    by old.view over (subst (λ (n : V). AreTaken seen old (record { view = n; fates = new.fates }) blocks) rest.view taken) (subst (λ (n : V). KeepsBlocks seen old (record { view = n; fates = new.fates }) blocks) rest.view rest)
  where
    by : (x : V) → x ≡ view → AreTaken seen (record { view = x; fates = old.fates }) (record { view = x; fates = new.fates }) blocks
        → KeepsBlocks seen (record { view = x; fates = old.fates }) (record { view = x; fates = new.fates }) blocks → TakesIn (seen view) old.fates new.fates blocks
    by x e f r = subst (λ y. TakesIn (seen y) old.fates new.fates blocks) e (record {
      takes = record { puts = f.puts; headers = f.headers; only = f.only; counts = f.counts; sees = f.sees };
      rest = record { view = refl; others = r.others; groups = r.groups };
    })

-- what is told over the view of a draft is told over the view
pub wrote_over : {V : Type 0} (seen : V → Seen) (view : V) (d0 d1 : Drafted V) (a at : ℕ) (new room : List ℕ) → d0.view ≡ view
    → ((h : Holding) → IsShown (seen d0.view) a h → CanWrite h at (length new) room → HasWritten (seen_with (seen d0.view) d1.fates) empty d1.fates room [] h at new)
    → (h : Holding) → IsShown (seen view) a h → CanWrite h at (length new) room → HasWritten (seen_with (seen view) d1.fates) empty d1.fates room [] h at new
wrote_over {V} seen view d0 d1 a at new room over written =
    subst (λ (x : V). (h : Holding) → IsShown (seen x) a h → CanWrite h at (length new) room → HasWritten (seen_with (seen x) d1.fates) empty d1.fates room [] h at new) over written

pub timed_over : {V : Type 0} (seen : V → Seen) (view : V) (d1 d2 : Drafted V) (a time : ℕ) → d1.view ≡ view → GetsTime (seen d1.view) d1.fates a time d2.fates → GetsTime (seen view) d1.fates a time d2.fates
timed_over {V} seen view d1 d2 a time over timed = subst (λ (x : V). GetsTime (seen x) d1.fates a time d2.fates) over timed

pub whole_over : {V : Type 0} (seen : V → Seen) (view : V) (d : Drafted V) → d.view ≡ view → AreWhole (seen d.view).size d.fates → AreWhole (seen view).size d.fates
whole_over {V} seen view d over whole = subst (λ (x : V). AreWhole (seen x).size d.fates) over whole

pub writes_file : {V : Type 0} (seen : V → Seen) (view : V) (d0 d1 d2 : Drafted V) (last : FinMap nat_cmp Fate) (a at : ℕ) (new : List ℕ) (time : ℕ) (room : List ℕ) → d0.view ≡ view → d1.view ≡ d0.view
    → Follows (seen d0.view) a room empty d1.fates
    → ((h : Holding) → IsShown (seen d0.view) a h → CanWrite h at (length new) room → HasWritten (seen_with (seen d0.view) d1.fates) empty d1.fates room [] h at new)
    → GetsTime (seen d1.view) d1.fates a time d2.fates → TakesIn (seen view) d2.fates last room → WritesFile (seen view) a at new time room last
writes_file {V} seen view d0 d1 d2 last a at new time room e0 e1 within written timed taken = record {
  first = d1.fates;
  within = subst (λ (x : V). Follows (seen x) a room empty d1.fates) e0 within;
  written = wrote_over seen view d0 d1 a at new room e0 written;
  second = d2.fates;
  timed = timed_over seen view d1 d2 a time (e1 ∙ e0) timed;
  taken = taken;
}

-- what is left of a room of which as many blocks are taken as it has
pub none_left : (room taken left : List ℕ) → room ≡ taken ++ left → length taken ≡ length room → length left ≡ 0
none_left room taken left front same = omega (arith, ap length front, length-append taken left, same)

-- over a new draft bytes were written, and the whole room was used for them
pub wrote : {V : Type 0} (seen : V → Seen) (old now : Drafted V) (at : ℕ) (bytes first room left : List ℕ) (h : Holding) → old.fates ≡ empty → now.view ≡ old.view → first ≡ room → left ≡ []
    → HasWritten (seen_in seen now) old.fates now.fates first left h at bytes → HasWritten (seen_with (seen old.view) now.fates) empty now.fates room [] h at bytes
wrote {V} seen old now at bytes first room left h new view same used is =
    subst (λ (x : V). HasWritten (seen_with (seen x) now.fates) empty now.fates room [] h at bytes) view
    (subst (λ l. HasWritten (seen_in seen now) empty now.fates room l h at bytes) used
    (subst (λ r. HasWritten (seen_in seen now) empty now.fates r left h at bytes) same
    (subst (λ f. HasWritten (seen_in seen now) f now.fates first left h at bytes) new is)))

-- what follows of a change that is answered
pub change_so : (r : Result (Step (Option Change)) CallFault) (P Q : Change → Type 0) → ((change : Change) → P change → Q change) → IfIs r (λ done. IfSome done P) → IfIs r (λ done. IfSome done Q)
change_so r P Q so is = answer_so r (λ done. IfSome done P) (λ done. IfSome done Q) each is
  where
    each : (done : Option Change) → IfSome done P → IfSome done Q
    each None holds = tt
    each (Some change) holds = so change holds

-- a block that is needed of all that a view shows
pub needed_all : {A : Type 0} (r : Result (Step A) CallFault) (v : Seen) (a : ℕ) (P : Holding → Missing → Type 0) → ((h : Holding) → IsShown v a h → IfNeedBlock r (P h)) → IfNeedBlock r (λ m. (h : Holding) → IsShown v a h → P h m)
needed_all (Ok (Is answer)) v a P needed = tt
needed_all (Ok (NeedBlock missing)) v a P needed = needed
needed_all (Err fault) v a P needed = tt

-- an answer isn't both of the two
pub not_both : (r : Step Bool) (b : Bool) → ◌≡◌ {A = Result (Step Bool) CallFault} (Ok r) (Ok (Is true)) → r ≡ Is b → b ≡ false → ⊥
not_both r b all is never = cc
