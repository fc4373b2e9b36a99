use Rattle.std.proofs.Common.{◌≡◌, inl, inr, true, false, Some, refl, sym, ap, ◌∙◌, subst}
use Rattle.std.proofs.lemmas.Bool.{cases_Bool}
use Rattle.std.specs.Prelude.{not, IfSome}
use Rattle.file_tree.specs.Names.{is_dots}
use Rattle.gfs2_layout.specs.Holding.{Holding}
use Rattle.gfs2_layout.specs.Inode.{is_hashed_in}
use Rattle.glock_names.specs.declared.steps.Entry.{Entry}
use Rattle.resource_groups.specs.Putting.{HasDataBlock}
use Rattle.glock_names.proofs.StepLaws.{answer_at, needed_at}
use Rattle.directories.specs.Shown.{Says}
use Rattle.directories.specs.Shown as dirs
use Rattle.path_walks.proofs.Steps.{directory_here, directory_all, none_so, inside_so, handed, fault_so, fault_of_all}
use Rattle.pair_walks.specs.Ahead.{IsDamageOfName, in_this, past_groups}
use Rattle.pair_walks.proofs.next.child_of.Goals as goal

pub look-requires : goal.look-requires
look-requires g c = record { directory = directory_here (g.V.View.seen c.args.view.now) c.args.place.now.inode c.args.place.now.dinode c.requires.dinode c.requires.directory }

pub returns-in_err-entry-clause-damaged : goal.returns-in_err-entry-clause-damaged
returns-in_err-entry-clause-damaged g c =
    let v = g.V.View.seen c.args.view.now in
    let dir = directory_all v c.args.place.now.inode c.args.place.now.dinode c.requires.dinode c.requires.directory in
    handed _ _ _ c.from_residual.ensures.1
    (fault_so _ (IsDamageOfName v c.args.place.now.inode c.args.name.now) (λ rule b broken. in_this rule b dir broken) c.in_err-entry.field-0.0
    (fault_of_all (dirs.IsShown v c.args.place.now.inode) (dirs.IsBroken v) _ c.in_err-entry.field-0.0 c.in_err-entry.ensures.kept c.in_err-entry.ensures.damaged))

pub returns-in-NeedBlock-clause-needed : goal.returns-in-NeedBlock-clause-needed
returns-in-NeedBlock-clause-needed g c =
    let v = g.V.View.seen c.args.view.now in
    record {
      directory = directory_all v c.args.place.now.inode c.args.place.now.dinode c.requires.dinode c.requires.directory;
      needed = λ h shown. subst (λ n. dirs.IsNeededFor v h n c.in-NeedBlock.missing) c.bytes-bytes.ensures.bytes (needed_at _ _ (dirs.IsNeededFor v h c.bytes-bytes.result.now) c.in-NeedBlock.is (c.in_ok-entry.ensures.needed h shown));
      absent = needed_at _ _ _ c.in-NeedBlock.is c.in_ok-entry.ensures.absent;
    }

pub returns-then-is_none-clause-damaged : goal.returns-then-is_none-clause-damaged
returns-then-is_none-clause-damaged g c =
    let v = g.V.View.seen c.args.view.now in
    past_groups c.in-Is-Some.entry.addr
    (record {
      there = c.requires.there;
      directory = directory_all v c.args.place.now.inode c.args.place.now.dinode c.requires.dinode c.requires.directory;
      child = λ h shown. record {
        entry = c.in-Is-Some.entry;
        says = subst (λ n. Says h n (Some c.in-Is-Some.entry)) c.bytes-bytes.ensures.bytes (subst (Says h c.bytes-bytes.result.now) c.in-Is-Some.field-0-is (answer_at _ _ _ c.in-Is-Some.is (c.in_ok-entry.ensures.found h shown)));
        address = refl;
      };
    })
    (λ h shown. elim (cases_Bool (is_hashed_in h)) [
      | inl hashed ↦ absurd (away (here h shown hashed))
      | inr plain ↦ plain
    ])
    away
  where
    away : ¬ (HasDataBlock (g.V.View.seen c.args.view.now) c.in-Is-Some.entry.addr)
    away = none_so _ c.group_of.result (c.is_none.ensures ∙ ap not c.if-is_none.true) c.group_of.ensures.none

    here : (h : Holding) → dirs.IsShown (g.V.View.seen c.args.view.now) c.args.place.now.inode h → is_hashed_in h ≡ true → HasDataBlock (g.V.View.seen c.args.view.now) c.in-Is-Some.entry.addr
    here h shown hashed = subst (λ found. IfSome found (λ (e : Entry). HasDataBlock (g.V.View.seen c.args.view.now) e.addr)) c.in-Is-Some.field-0-is
        (answer_at _ _ (λ found. IfSome found (λ (e : Entry). HasDataBlock (g.V.View.seen c.args.view.now) e.addr)) c.in-Is-Some.is (c.in_ok-entry.ensures.inside h shown hashed (subst (λ n. is_dots n ≡ false) (sym c.bytes-bytes.ensures.bytes) c.bytes-bytes.ensures.name.not_dots)))

pub returns-clause-found : goal.returns-clause-found
returns-clause-found g c =
    let v = g.V.View.seen c.args.view.now in (
      record {
        there = c.requires.there;
        directory = directory_all v c.args.place.now.inode c.args.place.now.dinode c.requires.dinode c.requires.directory;
        child = λ h shown. record {
          entry = c.in-Is-Some.entry;
          says = subst (λ n. Says h n (Some c.in-Is-Some.entry)) c.bytes-bytes.ensures.bytes (subst (Says h c.bytes-bytes.result.now) c.in-Is-Some.field-0-is (answer_at _ _ _ c.in-Is-Some.is (c.in_ok-entry.ensures.found h shown)));
          address = refl;
        };
      },
      inside_so v c.in-Is-Some.entry.addr c.group_of.result (c.is_none.ensures ∙ ap not c.if-is_none.false) c.group_of.ensures.group c.group_of.ensures.own,
    )
