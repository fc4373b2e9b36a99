use Rattle.std.proofs.Common.{◌≡◌, ◌∙◌, List, ◌++◌, ◌-◌, ℕ, length, None, Some, ap, subst, sym, take, drop}
use Rattle.gfs2_layout.specs.Area.{IsArea, IsRecordAt, first_named, slot_at, slots_of}
use Rattle.gfs2_layout.specs.Cutting.{slot_from}
use Rattle.gfs2_layout.proofs.PutHere.{end_put}
use Rattle.linear_dirs.proofs.Looked.{rest_is, rest_put}
use Rattle.name_redirects.specs.Leading.{slots_led_to, with_inum}
use Rattle.name_redirects.proofs.Led.{inum_in_rest}
use Rattle.name_redirects.proofs.redirecting.lead_in.Goals as goal

pub redirect_record-requires-clause-used : goal.redirect_record-requires-clause-used
redirect_record-requires-clause-used c =
    let part = take (length c.args.bytes.now - c.args.start) (drop c.args.start c.args.bytes.now) in
    (c.records_are_found_by_name.ensures.named c.args.name.now (slots_of part) (slot_at (drop c.in-Some.at part)) c.in-Some.ensures.first.1).0

pub returns-clause-led : goal.returns-clause-led
returns-clause-led c = λ _.
    let start = c.args.start in
    let bytes = c.args.bytes.now in
    let name = c.args.name.now in
    let at = c.in-Some.at in
    let whole = rest_is start bytes in
    let put = rest_put start bytes c.redirect_record.new.area c.requires.long in
    record {
      place = at;
      at = subst (λ (a : List ℕ). IsRecordAt a at) whole c.in-Some.ensures.place;
      none_before = subst (λ (a : List ℕ). first_named name (slots_of (take at a)) ≡ None) whole c.in-Some.ensures.none_before;
      first = subst (λ (a : List ℕ). first_named name (slots_of a) ≡ Some (slot_from at a)) whole c.in-Some.ensures.first.1;
      bytes = end_put start bytes c.redirect_record.new.area
          ∙ ap (λ (t : List ℕ). take start bytes ++ t) (c.redirect_record.ensures.bytes ∙ ap (with_inum at c.args.inum.now) whole)
          ∙ inum_in_rest start at c.args.inum.now bytes c.requires.long;
      slots = ap slots_of put ∙ c.redirect_record.ensures.slots ∙ ap (slots_led_to at c.args.inum.now) whole;
      filled = subst IsArea (sym put) c.redirect_record.ensures.area;
    }
