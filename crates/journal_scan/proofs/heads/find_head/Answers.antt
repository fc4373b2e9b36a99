use Rattle.std.proofs.Common.{◌≡◌, ℕ, Option, None, Some, ap, sym, ◌∙◌, refl, arith}
use Rattle.log_layout.specs.Journal.{best_from, head_in}
use Rattle.log_layout.specs.declared.log_header.LogHeader.{LogHeader}
use Rattle.journal_scan.specs.Images.{ring_of}
use Rattle.journal_scan.specs.declared.heads.HeadSearch.{HeadSearch}
use Rattle.journal_scan.specs.declared.image.JournalImage.{JournalImage}
use Rattle.journal_scan.proofs.heads.find_head.Goals as goal

-- the best of all places
best_is_head : (j : JournalImage) (n m : ℕ) (s : HeadSearch) (found : Option LogHeader) → n ≡ j.length → s ≡ record { place = m; best = best_from (ring_of j) 0 n } → s.best ≡ found → head_in (ring_of j) ≡ found
unfolding head_in
best_is_head j n m s found all is best = ap (best_from (ring_of j) 0) (sym all) ∙ sym (ap (λ (h : HeadSearch). h.best) is) ∙ best

pub returns-in-Some : goal.returns-in-Some
returns-in-Some c =
    let all : c.loop-place.place ≡ c.args.j.now.length = omega (arith, c.loop-place-test.false, c.loop-place.auto.place-end) in
    let found = best_is_head c.args.j.now c.loop-place.place c.loop-place.place c.loop-place.search (Some c.in-Some.head) all c.loop-place.invariant c.in-Some.is in
    rw found refl

pub returns-in-None : goal.returns-in-None
returns-in-None c =
    let all : c.loop-place.place ≡ c.args.j.now.length = omega (arith, c.loop-place-test.false, c.loop-place.auto.place-end) in
    let found = best_is_head c.args.j.now c.loop-place.place c.loop-place.place c.loop-place.search None all c.loop-place.invariant c.in-None.is in
    rw found refl
