use Rattle.std.proofs.Common.{◌≡◌, ◌<◌, ◌≤◌, ◌^◌, length, sym, ap, subst, ◌∙◌, arith}
use Rattle.std.specs.Prelude.{IfErr, IfOk, IfSome, IsTrue, nat_lt}
use Rattle.std.specs.List.{All, list_all}
use Rattle.image_replays.proofs.Lists.{all_inside, false_true}
use Rattle.image_mount.specs.Mounted.{Journal}
use Rattle.log_layout.specs.declared.log_header.LogHeader.{LogHeader}
use Rattle.journal_reads.specs.Reading.{ring_read}
use Rattle.replay_looks.specs.Looks.{IsStopped}
use Rattle.image_replays.proofs.Causes.{cause_of_one}
use Rattle.image_replays.proofs.Stopped.{free_of, header_of, why_of, writable_of}
use Rattle.image_replays.proofs.planning.plan_journal.Goals as goal

pub returns-then-len-clause-why : goal.returns-then-len-clause-why
returns-then-len-clause-why g c tells few inside = absurd (let high : 4294967296 ≤ length c.args.journal.now.blocks = grind (arith, c.if-len.true, c.len.ensures) in omega (arith, few, high))

pub returns-then-not-are_inside-clause-why : goal.returns-then-not-are_inside-clause-why
returns-then-not-are_inside-clause-why g c tells few inside =
    let blocks : c.deref.result.now ≡ c.args.journal.now.blocks = c.deref.ensures.value ∙ ap (λ (j : Journal). j.blocks) c.journal.view_is in
    let is = c.are_inside.ensures ∙ (λ t. list_all (λ b. nat_lt b (c.blocks-2.ensures.value t)) (blocks t)) in
    absurd (false_true (sym c.if-not-are_inside.true ∙ is ∙ all_inside c.args.journal.now.blocks (g.D.SharedDisk.state c.args.disk.now).count inside))

pub returns-clause-writable : goal.returns-clause-writable
returns-clause-writable g c =
    writable_of (g.D.SharedDisk.state c.args.disk.now) c.args.marks.now c.look_at_journal.result c.requires.marks c.look_at_journal.ensures.rising c.look_at_journal.ensures.whole c.look_at_journal.ensures.free

pub returns-clause-header : goal.returns-clause-header
returns-clause-header g c =
    let s = g.D.SharedDisk.state c.args.disk.now in
    let r = c.look_at_journal.result in
    let blocks : c.deref-2.result.now ≡ c.args.journal.now.blocks = c.deref-2.ensures.value ∙ ap (λ (j : Journal). j.blocks) c.journal.view_is in
    let inside : c.deref.result.now ≡ c.args.journal.now.blocks = c.deref.ensures.value ∙ ap (λ (j : Journal). j.blocks) c.journal.view_is in
    header_of s c.args.journal.now.blocks r
    (sym (c.are_inside.ensures ∙ (λ t. list_all (λ b. nat_lt b (c.blocks-2.ensures.value t)) (inside t))) ∙ c.if-not-are_inside.false)
    (subst (λ bs. IfOk r (λ p. IfSome p.clean (λ (h : LogHeader). h.blkno < length bs))) blocks c.look_at_journal.ensures.place)

pub returns-clause-free : goal.returns-clause-free
returns-clause-free g c = free_of (g.D.SharedDisk.state c.args.disk.now) c.args.marks.now c.look_at_journal.result c.requires.marks c.look_at_journal.ensures.free

pub returns-clause-why : goal.returns-clause-why
returns-clause-why g c =
    let s = g.D.SharedDisk.state c.args.disk.now in
    let r = c.look_at_journal.result in
    let blocks : c.deref-2.result.now ≡ c.args.journal.now.blocks = c.deref-2.ensures.value ∙ ap (λ (j : Journal). j.blocks) c.journal.view_is in
    let dinode : c.journal.inside.dinode ≡ c.args.journal.now.dinode = ap (λ (j : Journal). j.dinode) c.journal.view_is in
    why_of (IsTrue s.tells) (length c.args.journal.now.blocks < 2 ^ 32) (All (λ b. b < s.count) c.args.journal.now.blocks)
    (IsStopped (ring_read s c.args.node c.args.journal.now.blocks) c.args.journal.now.dinode c.args.journal.now.blocks c.args.marks.now) r
    (subst (λ bs. IfErr r (λ f. IsTrue s.tells → IsStopped (ring_read s c.args.node bs) c.args.journal.now.dinode bs c.args.marks.now f)) blocks
    (subst (λ d. IfErr r (λ f. IsTrue s.tells → IsStopped (ring_read s c.args.node c.deref-2.result.now) d c.deref-2.result.now c.args.marks.now f)) dinode c.look_at_journal.ensures.why))

pub returns-clause-cause : goal.returns-clause-cause
returns-clause-cause g c =
    let s = g.D.SharedDisk.state c.args.disk.now in
    let blocks : c.deref-2.result.now ≡ c.args.journal.now.blocks = c.deref-2.ensures.value ∙ ap (λ (j : Journal). j.blocks) c.journal.view_is in
    let inside : c.deref.result.now ≡ c.args.journal.now.blocks = c.deref.ensures.value ∙ ap (λ (j : Journal). j.blocks) c.journal.view_is in
    cause_of_one c.args.journal.now c.deref-2.result.now s.count (g.D.SharedDisk.faults c.args.disk.now c.args.node) (g.D.SharedDisk.faults c.look_at_journal.new.disk c.args.node) c.look_at_journal.result blocks
    (sym (ap (λ (j : Journal). j.head.clean) c.journal.view_is) ∙ c.if-journal.false)
    (sym (c.are_inside.ensures ∙ (λ t. list_all (λ b. nat_lt b (c.blocks-2.ensures.value t)) (inside t))) ∙ c.if-not-are_inside.false) c.look_at_journal.ensures.cause
