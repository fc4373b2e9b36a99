use Rattle.std.proofs.Common.{◌≡◌, ◌++◌, ◌∷◌, [], List, ℕ, sym, ap, ap₂, ◌∙◌, arith}
use Rattle.std.proofs.lemmas.List.FromFn.{map-range_with_len_more}
use Rattle.std.specs.Prelude.{map}
use Rattle.std.specs.List.{range_with_len}
use Rattle.gfs2_layout.specs.Inode.{content_block}
use Rattle.image_model.specs.Claims.{every}
use Rattle.image_journals.proofs.Read.{handed}
use Rattle.image_journals.proofs.places.places_of.Goals as goal

pub returns-in_err-count : goal.returns-in_err-count
returns-in_err-count c r o l j s has = handed c.from_residual.result _ _ _ c.from_residual.ensures.1 (c.in_err-count.ensures r o l j s has)

pub returns-in_err-block : goal.returns-in_err-block
returns-in_err-block c r o l j s has =
    let count = c.in_ok-count.ensures r o l j s has in
    handed c.from_residual-in_err-block.result _ _ _ c.from_residual-in_err-block.ensures.1 (c.in_err-block.ensures r o l j s has (omega (arith, c.loop-index-test.true, count)))

pub loop-index-preserved : goal.loop-index-preserved
loop-index-preserved c r o m j s has =
    let count = c.in_ok-count.ensures r o m j s has in
    let f = content_block (every r c.args.dinode) in
    let block = c.in_ok-block.ensures r o m j s has (omega (arith, c.loop-index-test.true, count)) in
    c.in_ok-push.ensures.items ∙ ap₂ (λ (xs : List ℕ) (x : ℕ). xs ++ x ∷ []) (c.loop-index.invariant r o m j s has) block
    ∙ sym (map-range_with_len_more f 0 c.loop-index.index c.loop-index.index (omega arith))

pub returns : goal.returns
returns c r o l j s has =
    let count = c.in_ok-count.ensures r o l j s has in
    c.loop-index.invariant r o l j s has ∙ ap (λ n. map (content_block (every r c.args.dinode)) (range_with_len 0 n)) (let same : c.loop-index.index ≡ c.in_ok-count.count = omega (arith, c.loop-index-test.false, c.loop-index.auto.index-end) in same ∙ count)
