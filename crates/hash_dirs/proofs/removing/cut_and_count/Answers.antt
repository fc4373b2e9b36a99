use Rattle.std.proofs.Common.{◌≡◌, ℕ, List, sym, subst, ◌∙◌, arith}
use Rattle.std.specs.Prelude.{Some}
use Rattle.hash_dirs.specs.Exchanging.{IsLeafCut}
use Rattle.hash_dirs.proofs.Cuts.{cut_put, size_mid, there_mid}
use Rattle.hash_dirs.proofs.removing.cut_and_count.Goals as goal

same : (x y : List ℕ) → Some x ≡ Some y → x ≡ y
same x y e = cc

pub put_dinode-requires-clause-there : goal.put_dinode-requires-clause-there
put_dinode-requires-clause-there g c =
    let cut = c.in_ok-cut_found.ensures.cut c.requires.seen.bytes c.requires.seen.there in
    there_mid g.V.View.seen c.args.draft.now c.cut_found.new.draft c.cut_found.new.draft c.args.dir c.args.found.now cut.0 cut.3 c.requires.there

pub put_dinode-requires-clause-large : goal.put_dinode-requires-clause-large
put_dinode-requires-clause-large g c =
    let cut = c.in_ok-cut_found.ensures.cut c.requires.seen.bytes c.requires.seen.there in
    let same = size_mid g.V.View.seen c.args.draft.now c.cut_found.new.draft c.cut_found.new.draft c.args.dir c.args.found.now cut.0 cut.3 in
    omega (arith, c.requires.large, same)

pub returns-clause-cut : goal.returns-clause-cut
returns-clause-cut g c =
    let cut = c.in_ok-cut_found.ensures.cut c.requires.seen.bytes c.requires.seen.there in
    let mid = there_mid g.V.View.seen c.args.draft.now c.cut_found.new.draft c.cut_found.new.draft c.args.dir c.args.found.now cut.0 cut.3 c.requires.there in (
      c.in-Some.fewer,
      record { links = c.links_of.result; fewer = c.in-Some.ensures.some; are = c.links_of.ensures.value },
      cut_put g.V.View.seen c.args.draft.now c.cut_found.new.draft c.put_dinode.new.draft c.args.dir c.args.found.now cut.0 cut.3 c.in-Some.fewer mid.0 mid.1
          (c.in_ok-put_dinode.ensures.put mid.0 mid.1)
          (λ bytes at. subst (λ b. IsLeafCut b cut.0 c.args.found.now.spot.at) (same c.requires.seen.bytes bytes (sym c.requires.seen.there ∙ at)) cut.2) cut.1
          (c.in_ok-put_dinode.ensures.read mid.0 mid.1) (c.in_ok-put_dinode.ensures.long mid.0 mid.1) (c.in_ok-put_dinode.ensures.behind mid.0 mid.1),
    )
