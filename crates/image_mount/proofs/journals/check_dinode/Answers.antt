use Rattle.std.proofs.Common.{sym, ap, subst, ◌∙◌}
use Rattle.std.specs.Prelude.{map, Contains}
use Rattle.image_mount.specs.declared.fault.MountFault.TheVariants as fault
use Rattle.image_mount.specs.declared.journals.Ring.{Ring}
use Rattle.image_mount.proofs.Causes.{lacks}
use Rattle.image_mount.proofs.Moved.{twice_jindex, twice_journal, twice_list, twice_master}
use Rattle.image_mount.proofs.journals.check_dinode.Goals as goal

pub returns-then-addr-system-clause-refused : goal.returns-then-addr-system-clause-refused
returns-then-addr-system-clause-refused c im j journal looked are at is =
    twice_master im c.args.system.now j journal _ looked at (is ∙ c.if-addr-system.true) (c.damaged.ensures ∙ ap (λ n. fault.Damaged n 3) (sym is))

pub returns-then-addr-system-2-clause-refused : goal.returns-then-addr-system-2-clause-refused
returns-then-addr-system-2-clause-refused c im j journal looked are at is =
    twice_list im c.args.system.now j journal _ looked at (is ∙ c.if-addr-system-2.true) (c.damaged-then-addr-system-2.ensures ∙ ap (λ n. fault.Damaged n 3) (sym is))

pub returns-then-addr-system-3-clause-refused : goal.returns-then-addr-system-3-clause-refused
returns-then-addr-system-3-clause-refused c im j journal looked are at is =
    twice_jindex im c.args.system.now j journal _ looked at (is ∙ c.if-addr-system-3.true) (c.damaged-then-addr-system-3.ensures ∙ ap (λ n. fault.Damaged n 3) (sym is))

pub returns-then-has_dinode-clause-refused : goal.returns-then-has_dinode-clause-refused
returns-then-has_dinode-clause-refused c im j journal looked are at is =
    twice_journal im c.args.system.now j journal c.args.rings.now _ looked at are (subst (Contains (map (λ (r : Ring). r.dinode) c.args.rings.now)) (sym is) (c.has_dinode.ensures.0 c.if-has_dinode.true))
    (c.damaged-then-has_dinode.ensures ∙ ap (λ n. fault.Damaged n 3) (sym is))

pub returns-clause-own : goal.returns-clause-own
returns-clause-own c = record { master = c.if-addr-system.false; rindex = c.if-addr-system-2.false; jindex = c.if-addr-system-3.false }

pub returns-clause-new : goal.returns-clause-new
returns-clause-new c = lacks c.has_dinode.result c.has_dinode.ensures c.if-has_dinode.false
