use Rattle.std.proofs.Common.{◌≡◌, ◌+◌, ◌∙◌, max, length, drop, Ok, ap, refl, rules}
use Rattle.file_tree.specs.Apply.{overwritten}
use Rattle.gfs2_layout.specs.Bytes.{put_at}
use Rattle.gfs2_layout.specs.Writing.{dinode_put}
use Rattle.growth_steps.specs.Stuffed.{stuffed_in}
use Rattle.growth_steps.proofs.Owning.{put_over, stuffed_behind, stuffed_block}
use Rattle.growth_steps.proofs.stuffed.write_stuffed.Goals as goal

pub returns-clause-bytes : goal.returns-clause-bytes
returns-clause-bytes c =
    let size : c.max-2.result ≡ max c.args.dinode.now.size (c.args.at + length c.args.new.now) = search rules in
    let until : c.max.result ≡ max (232 + c.args.dinode.now.size) (232 + c.args.at) = search rules in
    let put : c.overwrite.new.bytes ≡ put_at 232 (overwritten c.args.at c.args.new.now (stuffed_in c.args.dinode.now c.args.block.now)) c.args.block.now
    = c.overwrite.ensures ∙ ap (put_at (232 + c.args.at) c.args.new.now) c.clear_between.ensures ∙ put_over c.args.dinode.now c.args.at c.max.result c.args.new.now c.args.block.now c.requires.content c.requires.room until in
    c.write.ensures.bytes ∙ (λ t. dinode_put (record c.args.dinode.now { size = size t }) (put t))

pub returns-clause-stuffed : goal.returns-clause-stuffed
returns-clause-stuffed c =
    let size : c.max-2.result ≡ max c.args.dinode.now.size (c.args.at + length c.args.new.now) = search rules in
    let until : c.max.result ≡ max (232 + c.args.dinode.now.size) (232 + c.args.at) = search rules in
    stuffed_block c.args.dinode.now c.args.at _ c.args.new.now c.args.block.now c.write.new.bytes c.requires.content c.requires.room refl
    (c.write.ensures.behind ∙ ap (drop 232) (c.overwrite.ensures ∙ ap (put_at (232 + c.args.at) c.args.new.now) c.clear_between.ensures ∙ put_over c.args.dinode.now c.args.at c.max.result c.args.new.now c.args.block.now c.requires.content c.requires.room until))
    (c.write.ensures.read ∙ ap (λ n. Ok (record c.args.dinode.now { size = n })) size)
    (c.write.auto.bytes ∙ c.overwrite.auto.bytes ∙ c.clear_between.auto.block)

pub returns-clause-behind : goal.returns-clause-behind
returns-clause-behind c =
    let until : c.max.result ≡ max (232 + c.args.dinode.now.size) (232 + c.args.at) = search rules in
    stuffed_behind c.args.dinode.now c.args.at (max c.args.dinode.now.size (c.args.at + length c.args.new.now)) c.args.new.now c.args.block.now c.write.new.bytes c.requires.content c.requires.room refl
    (c.write.ensures.behind ∙ ap (drop 232) (c.overwrite.ensures ∙ ap (put_at (232 + c.args.at) c.args.new.now) c.clear_between.ensures ∙ put_over c.args.dinode.now c.args.at c.max.result c.args.new.now c.args.block.now c.requires.content c.requires.room until))
