use Rattle.std.proofs.Common.{◌≢◌, ◌<◌, ◌^◌, [], subst}
use Rattle.crc_words.specs.Remainder.{crc32_of}
use Rattle.file_tree.specs.Names.{last_of}
use Rattle.move_calls.proofs.Answered.{absent, answered, fewer, full, inside, lacked, lacks, needed, spaceless, unbuilt}
use Rattle.move_calls.proofs.Images.{asked, block, covered, first, held, lock, space, under}
use Rattle.move_calls.proofs.answering.attempt.Goals as goal

pub returns-clause-answered : goal.returns-clause-answered
returns-clause-answered g c = answered (g.V.View.seen c.args.view.now) c.args.call.now c.args.stamp.now.node c.args.stamp.now.time c.answer.result c.answer.ensures.answer

pub returns-clause-inside : goal.returns-clause-inside
returns-clause-inside g c = inside (g.V.View.seen c.args.view.now) c.args.call.now c.args.stamp.now.node c.args.stamp.now.time c.answer.result c.answer.ensures.answer

pub returns-clause-spaceless : goal.returns-clause-spaceless
returns-clause-spaceless g c = spaceless (g.V.View.seen c.args.view.now) c.args.call.now c.args.stamp.now.node c.args.stamp.now.time c.answer.result c.answer.ensures.answer

pub returns-clause-lacked : goal.returns-clause-lacked
returns-clause-lacked g c = lacked (g.V.View.seen c.args.view.now) c.args.call.now c.args.stamp.now.node c.args.stamp.now.time c.answer.result c.answer.ensures.answer

pub returns-clause-lacks : goal.returns-clause-lacks
returns-clause-lacks g c = lacks (g.V.View.seen c.args.view.now) c.args.call.now c.args.stamp.now.node c.args.stamp.now.time c.answer.result c.answer.ensures.answer

pub returns-clause-needed : goal.returns-clause-needed
returns-clause-needed g c = needed (g.V.View.seen c.args.view.now) c.args.call.now c.args.stamp.now.node c.args.stamp.now.time c.answer.result c.answer.ensures.answer

pub returns-clause-absent : goal.returns-clause-absent
returns-clause-absent g c = absent (g.V.View.seen c.args.view.now) c.args.call.now c.args.stamp.now.node c.args.stamp.now.time c.answer.result c.answer.ensures.answer

pub returns-clause-full : goal.returns-clause-full
returns-clause-full g c = full (g.V.View.seen c.args.view.now) c.args.call.now c.args.stamp.now.node c.args.stamp.now.time c.answer.result c.answer.ensures.answer

pub returns-clause-fewer : goal.returns-clause-fewer
returns-clause-fewer g c = fewer (g.V.View.seen c.args.view.now) c.args.call.now c.args.stamp.now.node c.args.stamp.now.time c.answer.result c.answer.ensures.answer

pub returns-clause-unbuilt : goal.returns-clause-unbuilt
returns-clause-unbuilt g c = unbuilt (g.V.View.seen c.args.view.now) c.args.call.now c.args.stamp.now.node c.args.stamp.now.time c.answer.result c.answer.ensures.answer

pub returns-clause-held : goal.returns-clause-held
returns-clause-held g c im o l t of = held (g.V.View.seen c.args.view.now) c.args.call.now c.args.stamp.now.node c.args.stamp.now.time c.is_a_view.ensures (subst (λ p. p ≢ [] → crc32_of (last_of p) < 2 ^ 32) c.to_of.ensures c.last_hash_fits.ensures) im o l t of c.answer.result c.answer.ensures.answer

pub returns-clause-space : goal.returns-clause-space
returns-clause-space g c im o l t of = space (g.V.View.seen c.args.view.now) c.args.call.now c.args.stamp.now.node c.args.stamp.now.time c.is_a_view.ensures (subst (λ p. p ≢ [] → crc32_of (last_of p) < 2 ^ 32) c.to_of.ensures c.last_hash_fits.ensures) im o l t of c.answer.result c.answer.ensures.answer

pub returns-clause-under : goal.returns-clause-under
returns-clause-under g c im o l t need of so = under (g.V.View.seen c.args.view.now) c.args.call.now c.args.stamp.now.node c.args.stamp.now.time c.is_a_view.ensures (subst (λ p. p ≢ [] → crc32_of (last_of p) < 2 ^ 32) c.to_of.ensures c.last_hash_fits.ensures) im o l t of need so c.answer.result c.answer.ensures.answer

pub returns-clause-lock : goal.returns-clause-lock
returns-clause-lock g c im o l t need of so = lock (g.V.View.seen c.args.view.now) c.args.call.now c.args.stamp.now.node c.args.stamp.now.time c.is_a_view.ensures (subst (λ p. p ≢ [] → crc32_of (last_of p) < 2 ^ 32) c.to_of.ensures c.last_hash_fits.ensures) im o l t of need so c.answer.result c.answer.ensures.answer

pub returns-clause-block : goal.returns-clause-block
returns-clause-block g c im o l t need of so = block (g.V.View.seen c.args.view.now) c.args.call.now c.args.stamp.now.node c.args.stamp.now.time c.is_a_view.ensures (subst (λ p. p ≢ [] → crc32_of (last_of p) < 2 ^ 32) c.to_of.ensures c.last_hash_fits.ensures) im o l t of need so c.answer.result c.answer.ensures.answer

pub returns-clause-first : goal.returns-clause-first
returns-clause-first g c im o l t of = first (g.V.View.seen c.args.view.now) c.args.call.now c.args.stamp.now.node c.args.stamp.now.time c.is_a_view.ensures (subst (λ p. p ≢ [] → crc32_of (last_of p) < 2 ^ 32) c.to_of.ensures c.last_hash_fits.ensures) im o l t of c.answer.result c.answer.ensures.answer

pub returns-clause-asked : goal.returns-clause-asked
returns-clause-asked g c im o l t of = asked (g.V.View.seen c.args.view.now) c.args.call.now c.args.stamp.now.node c.args.stamp.now.time c.is_a_view.ensures (subst (λ p. p ≢ [] → crc32_of (last_of p) < 2 ^ 32) c.to_of.ensures c.last_hash_fits.ensures) im o l t of c.answer.result c.answer.ensures.answer

pub returns-clause-covered : goal.returns-clause-covered
returns-clause-covered g c im o l t of = covered (g.V.View.seen c.args.view.now) c.args.call.now c.args.stamp.now.node c.args.stamp.now.time c.is_a_view.ensures (subst (λ p. p ≢ [] → crc32_of (last_of p) < 2 ^ 32) c.to_of.ensures c.last_hash_fits.ensures) im o l t of c.answer.result c.answer.ensures.answer
