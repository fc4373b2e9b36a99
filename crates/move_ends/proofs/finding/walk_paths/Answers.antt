use Rattle.std.proofs.Common.{◌+◌, false, true, length, take, drop, sym, ap, subst, ◌∙◌, arith}
use Rattle.pair_walks.specs.OnePath.{AreInOrder}
use Rattle.pair_walks.proofs.Faults.{only_so, told_on}
use Rattle.pair_walks.specs.Walks.{IsPairDamage, IsPairTold, IsPairWalked}
use Rattle.pair_walks.proofs.Telling.{so_of}
use Rattle.move_ends.specs.Ends.{first_wants, from_path, second_wants, to_path}
use Rattle.move_ends.proofs.Wanted.{first_is, in_order, long, many, second_is}
use Rattle.move_ends.proofs.finding.walk_paths.Goals as goal

pub split-requires : goal.split-requires
split-requires g c =
    let path_is = c.names-from.ensures.names ∙ c.from_of.ensures in
    let low = long c.args.call.now c.requires.renaming c.requires.from c.requires.to c.deref.result.now (c.deref.ensures.value ∙ c.in_ok-wants.ensures) in
    omega (arith, low, ap length path_is)

pub walk_pair-requires-clause-first_as_many : goal.walk_pair-requires-clause-first_as_many
walk_pair-requires-clause-first_as_many g c =
    let path_is = c.names-from.ensures.names ∙ c.from_of.ensures in
    let first = c.split.ensures.first ∙ ap (λ n. take (length n + 1) c.deref.result.now) path_is
    ∙ first_is c.args.call.now c.requires.renaming c.requires.from c.requires.to c.deref.result.now (c.deref.ensures.value ∙ c.in_ok-wants.ensures) in
    ap length first ∙ many false (from_path c.args.call.now) c.requires.from ∙ ap (λ n. length n + 1) (sym path_is)

pub walk_pair-requires-clause-second_as_many : goal.walk_pair-requires-clause-second_as_many
walk_pair-requires-clause-second_as_many g c =
    let path_is = c.names-from.ensures.names ∙ c.from_of.ensures in
    let second = c.split.ensures.second ∙ ap (λ n. drop (length n + 1) c.deref.result.now) path_is
    ∙ second_is c.args.call.now c.requires.renaming c.requires.from c.requires.to c.deref.result.now (c.deref.ensures.value ∙ c.in_ok-wants.ensures) in
    ap length second ∙ many true (to_path c.args.call.now) c.requires.to ∙ ap (λ n. length n + 1) (sym (c.names-to.ensures.names ∙ c.to_of.ensures))

pub walk_pair-requires-clause-first_order : goal.walk_pair-requires-clause-first_order
walk_pair-requires-clause-first_order g c =
    let path_is = c.names-from.ensures.names ∙ c.from_of.ensures in
    let first = c.split.ensures.first ∙ ap (λ n. take (length n + 1) c.deref.result.now) path_is
    ∙ first_is c.args.call.now c.requires.renaming c.requires.from c.requires.to c.deref.result.now (c.deref.ensures.value ∙ c.in_ok-wants.ensures) in
    subst AreInOrder (sym first) (in_order false (from_path c.args.call.now))

pub walk_pair-requires-clause-second_order : goal.walk_pair-requires-clause-second_order
walk_pair-requires-clause-second_order g c =
    let path_is = c.names-from.ensures.names ∙ c.from_of.ensures in
    let second = c.split.ensures.second ∙ ap (λ n. drop (length n + 1) c.deref.result.now) path_is
    ∙ second_is c.args.call.now c.requires.renaming c.requires.from c.requires.to c.deref.result.now (c.deref.ensures.value ∙ c.in_ok-wants.ensures) in
    subst AreInOrder (sym second) (in_order true (to_path c.args.call.now))

pub returns-in_err-walk_pair-clause-damaged : goal.returns-in_err-walk_pair-clause-damaged
returns-in_err-walk_pair-clause-damaged g c =
    let v = g.V.View.seen c.args.view.now in
    let path_is = c.names-from.ensures.names ∙ c.from_of.ensures in
    let first = c.split.ensures.first ∙ ap (λ n. take (length n + 1) c.deref.result.now) path_is
    ∙ first_is c.args.call.now c.requires.renaming c.requires.from c.requires.to c.deref.result.now (c.deref.ensures.value ∙ c.in_ok-wants.ensures) in
    let second = c.split.ensures.second ∙ ap (λ n. drop (length n + 1) c.deref.result.now) path_is
    ∙ second_is c.args.call.now c.requires.renaming c.requires.from c.requires.to c.deref.result.now (c.deref.ensures.value ∙ c.in_ok-wants.ensures) in
    told_on (IsPairDamage v (from_path c.args.call.now) (to_path c.args.call.now) (first_wants c.args.call.now) (second_wants c.args.call.now)) c.from_residual-in_err-walk_pair.result _
    c.from_residual-in_err-walk_pair.ensures.1
    (only_so _ (IsPairDamage v (from_path c.args.call.now) (to_path c.args.call.now) (first_wants c.args.call.now) (second_wants c.args.call.now))
    (λ rule b. so_of (λ p q ws xs. IsPairDamage v p q ws xs rule b) c.names-from.result.now c.names-to.result.now (from_path c.args.call.now) (to_path c.args.call.now) c.split.result.0.now
    c.split.result.1.now (first_wants c.args.call.now) (second_wants c.args.call.now) path_is (c.names-to.ensures.names ∙ c.to_of.ensures) first second)
    c.in_err-walk_pair.field-0.0 c.in_err-walk_pair.ensures.damaged)

pub returns-clause-walked : goal.returns-clause-walked
returns-clause-walked g c im o l t of =
    let v = g.V.View.seen c.args.view.now in
    let path_is = c.names-from.ensures.names ∙ c.from_of.ensures in
    let first = c.split.ensures.first ∙ ap (λ n. take (length n + 1) c.deref.result.now) path_is
    ∙ first_is c.args.call.now c.requires.renaming c.requires.from c.requires.to c.deref.result.now (c.deref.ensures.value ∙ c.in_ok-wants.ensures) in
    let second = c.split.ensures.second ∙ ap (λ n. drop (length n + 1) c.deref.result.now) path_is
    ∙ second_is c.args.call.now c.requires.renaming c.requires.from c.requires.to c.deref.result.now (c.deref.ensures.value ∙ c.in_ok-wants.ensures) in
    so_of (λ p q ws xs. IsPairWalked v im o l t p q ws xs c.in_ok-walk_pair.field-0) c.names-from.result.now c.names-to.result.now (from_path c.args.call.now) (to_path c.args.call.now) c.split.result.0.now
    c.split.result.1.now (first_wants c.args.call.now) (second_wants c.args.call.now) path_is (c.names-to.ensures.names ∙ c.to_of.ensures) first second (c.in_ok-walk_pair.ensures.walked im o l t of)

pub returns-clause-told : goal.returns-clause-told
returns-clause-told g c =
    let v = g.V.View.seen c.args.view.now in
    let path_is = c.names-from.ensures.names ∙ c.from_of.ensures in
    let first = c.split.ensures.first ∙ ap (λ n. take (length n + 1) c.deref.result.now) path_is
    ∙ first_is c.args.call.now c.requires.renaming c.requires.from c.requires.to c.deref.result.now (c.deref.ensures.value ∙ c.in_ok-wants.ensures) in
    let second = c.split.ensures.second ∙ ap (λ n. drop (length n + 1) c.deref.result.now) path_is
    ∙ second_is c.args.call.now c.requires.renaming c.requires.from c.requires.to c.deref.result.now (c.deref.ensures.value ∙ c.in_ok-wants.ensures) in
    so_of (λ p q ws xs. IsPairTold v p q ws xs c.in_ok-walk_pair.field-0) c.names-from.result.now c.names-to.result.now (from_path c.args.call.now) (to_path c.args.call.now) c.split.result.0.now
    c.split.result.1.now (first_wants c.args.call.now) (second_wants c.args.call.now) path_is (c.names-to.ensures.names ∙ c.to_of.ensures) first second c.in_ok-walk_pair.ensures.told
