use Rattle.std.proofs.Common.{◌≡◌, ◌⊎◌, ◌+◌, ◌^◌, ◌≤◌, sym, ap, ◌∙◌, subst, arith}
use Rattle.std.specs.Prelude.{Contains}
use Rattle.std.specs.FinMap.{get}
use Rattle.glock_names.proofs.StepLaws.{answer_at, needed_at}
use Rattle.table_files.specs.Pointers.{HasPointerOf}
use Rattle.table_changes.specs.Setting.{AreRuns, IsSetIn, counted}
use Rattle.table_changes.proofs.Runs.{runs_have_pointers}
use Rattle.table_changes.proofs.table_mut.TreeTablePointerTableMut.set.Goals as goal

pub returns-in-NeedBlock-clause-needed : goal.returns-in-NeedBlock-clause-needed
returns-in-NeedBlock-clause-needed g c h shows = needed_at _ _ _ c.in-NeedBlock.is (c.in_ok-runs.ensures.needed h shows)

pub set_runs-requires : goal.set_runs-requires
set_runs-requires g c = record { seen = λ run has. answer_at _ _ _ c.in-Is.is c.in_ok-runs.ensures.seen run (subst (λ xs. Contains xs run) c.deref.ensures.value has) }

pub returns-clause-set : goal.returns-clause-set
returns-clause-set g c h shows sound placed leads =
    let all : counted c.deref.result.now ≡ c.args.count = ap counted c.deref.ensures.value ∙ answer_at _ _ _ c.in-Is.is c.in_ok-runs.ensures.all in
    let are = subst (AreRuns h c.args.from) (sym c.deref.ensures.value) (answer_at _ _ _ c.in-Is.is (c.in_ok-runs.ensures.found h shows)) in
    let few : c.args.from + counted c.deref.result.now ≤ 2 ^ c.args.self.now.depth = omega (arith, all, c.requires) in
    subst (λ n. IsSetIn g.V.View.seen c.args.draft.now c.set_runs.new.draft c.args.self.now h c.args.from n c.args.leaf) all (c.in_ok-set_runs.ensures.set h c.args.from shows sound placed are few)

pub returns-clause-parts : goal.returns-clause-parts
returns-clause-parts g c h shows b =
    let all : counted c.deref.result.now ≡ c.args.count = ap counted c.deref.ensures.value ∙ answer_at _ _ _ c.in-Is.is c.in_ok-runs.ensures.all in
    let are = subst (AreRuns h c.args.from) (sym c.deref.ensures.value) (answer_at _ _ _ c.in-Is.is (c.in_ok-runs.ensures.found h shows)) in
    subst (λ n. (get c.set_runs.new.draft.fates b ≡ get c.args.draft.now.fates b) ⊎ HasPointerOf h c.args.from n b) all
    (runs_have_pointers h c.args.from c.args.draft.now.fates c.set_runs.new.draft.fates c.deref.result.now are c.in_ok-set_runs.ensures.parts b)
