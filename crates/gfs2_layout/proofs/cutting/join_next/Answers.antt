use Rattle.std.proofs.Common.{◌≡◌, ◌≤◌, ◌<◌, ◌+◌, ◌∙◌, List, ℕ, length, ap, arith, rules, subst, sym}
use Rattle.std.specs.Int.{w16}
use Rattle.std.proofs.lemmas.List.Elements.{All-from_get_or}
use Rattle.gfs2_layout.specs.Bytes.{u16_at, with_number}
use Rattle.gfs2_layout.specs.Area.{IsArea, slots_of}
use Rattle.gfs2_layout.specs.declared.dirent.Dirent.{Dirent}
use Rattle.gfs2_layout.proofs.Records.{behind, area_on, record_length}
use Rattle.gfs2_layout.proofs.Cut.{has_next, joined_here}
use Rattle.gfs2_layout.proofs.Spelled.{AreBytes}
use Rattle.gfs2_layout.proofs.cutting.join_next.Goals as goal

pub head-length-requires : goal.head-length-requires
head-length-requires c =
    let long = record_length c.args.bytes.now (area_on c.args.bytes.now (omega (arith, c.requires.next)) c.requires.area).good in
    omega (arith, long.0, long.1)

pub head-more-requires : goal.head-more-requires
head-more-requires c =
    let next = has_next c.args.bytes.now c.head-length.result c.head-length.ensures c.requires.area c.requires.next in
    subst (λ (b : List ℕ). 40 ≤ length b) (sym next.part) next.more

pub overflow_add-length : goal.overflow_add-length
overflow_add-length c =
    let next = has_next c.args.bytes.now c.head-length.result c.head-length.ensures c.requires.area c.requires.next in
    let first : c.head-length.result.rec_len ≡ u16_at 20 c.args.bytes.now = ap (λ (d : Dirent). d.rec_len) c.head-length.ensures in
    let second : c.head-more.result.rec_len ≡ u16_at 20 (behind c.args.bytes.now) = ap (λ (d : Dirent). d.rec_len) c.head-more.ensures ∙ ap (u16_at 20) next.part in
    let small : c.head-length.result.rec_len + c.head-more.result.rec_len < 65536 = omega (arith, first, second, next.inside, c.requires.short) in
    search rules

pub put_u16-requires : goal.put_u16-requires
put_u16-requires c =
    let next = has_next c.args.bytes.now c.head-length.result c.head-length.ensures c.requires.area c.requires.next in
    omega (arith, next.inside, ap (λ (d : Dirent). d.rec_len) c.head-length.ensures, next.low)

pub returns : goal.returns
returns c =
    let bytes = c.args.bytes.now in
    let next = has_next bytes c.head-length.result c.head-length.ensures c.requires.area c.requires.next in
    let first : c.head-length.result.rec_len ≡ u16_at 20 bytes = ap (λ (d : Dirent). d.rec_len) c.head-length.ensures in
    let second : c.head-more.result.rec_len ≡ u16_at 20 (behind bytes) = ap (λ (d : Dirent). d.rec_len) c.head-more.ensures ∙ ap (u16_at 20) next.part in
    let is : c.put_u16.new.bytes ≡ with_number w16 20 (u16_at 20 bytes + u16_at 20 (behind bytes)) bytes = c.put_u16.ensures.bytes ∙ (λ i. with_number w16 20 (first i + second i) bytes) in
    let low : AreBytes c.put_u16.new.bytes = All-from_get_or (λ byte. byte < 256) c.put_u16.new.bytes 0 (λ i inside. (c.type_inv.bytes i).fits) in
    let joins = joined_here bytes (subst AreBytes is low) c.requires.area c.requires.next c.requires.short in
    record { slots = ap slots_of is ∙ joins.slots; area = subst IsArea (sym is) joins.area }
