use Rattle.std.proofs.Common.{◌≡◌, ◌∙◌, List, ℕ, Some, false, length, drop, refl, sym, ap, ap₂, subst}
use Rattle.std.proofs.lemmas.List.{take_at}
use Rattle.std.specs.FinMap.{insert as with_fate}
use Rattle.std.specs.Option.{option_map}
use Rattle.drafts.specs.Fates.{Drafted}
use Rattle.drafts.specs.declared.fate.Fate.TheVariants.{Put}
use Rattle.dinode_tree.specs.Reading.{inode_lock}
use Rattle.hash_inserts.specs.Converting.{AreConverted, CanConvert}
use Rattle.hash_inserts.proofs.Converted.{two_put_under}
use Rattle.hash_inserts.proofs.converting.convert_in.Goals as goal

one_bytes : (x y : List ℕ) → Some x ≡ Some y → x ≡ y
one_bytes x y e = cc

pub returns-clause-put : goal.returns-clause-put
returns-clause-put g c bytes there can =
    let old = c.args.draft.now in
    let dir = c.args.dir in
    let is : c.in-Some.bytes.items ≡ bytes = one_bytes c.in-Some.bytes.items bytes (ap (option_map (λ copy. copy.items)) (sym c.in-Some.is) ∙ c.in_ok-bytes.ensures.bytes ∙ there) in
    let read : c.deref_mut.result.now ≡ bytes = c.deref_mut.ensures.value ∙ is in
    let done = c.if-not-convert.ensures (subst CanConvert (sym read) can) in
    let table = c.convert.new.bytes in
    let new = c.convert.new.new in
    let new_is = c.deref.ensures.value ∙ take_at new (drop (length new) c.in_ok-new.new.items) c.in_ok-new.new.len (c.convert.auto.new ∙ c.deref_mut-2.ensures.len) in
    let table_is = c.deref-2.ensures.value ∙ take_at table (drop (length table) c.in-Some.bytes.items) c.in-Some.bytes.len (c.convert.auto.bytes ∙ c.deref_mut.ensures.len) in
    let first = c.in_ok-put.ensures.ok ∙ ap₂ (λ l b. record old { fates = with_fate old.fates c.args.leaf (Put l false b) }) c.lock_of.ensures new_is in
    let second = c.in_ok-put-2.ensures.ok ∙ ap₂ (λ l b. record c.put.new.self { fates = with_fate c.put.new.self.fates dir (Put l false b) }) c.lock_of-2.ensures table_is in (
      refl,
      (
        table,
        new,
        subst (λ b. AreConverted b table new c.args.leaf) read done.1,
        second ∙ ap (λ (d : Drafted _). record d { fates = with_fate d.fates dir (Put (inode_lock dir) false table) }) first,
      ),
    )

pub returns-clause-inside : goal.returns-clause-inside
returns-clause-inside g c =
    two_put_under c.args.draft.now.fates c.put-2.new.self.fates c.args.leaf c.args.dir c.deref.result.now c.deref-2.result.now
    (ap (λ (d : Drafted _). d.fates) c.in_ok-put-2.ensures.ok ∙ ap (λ (d : Drafted _). with_fate d.fates c.args.dir (Put c.lock_of-2.result false c.deref-2.result.now)) c.in_ok-put.ensures.ok
    ∙ ap₂ (λ l k. with_fate (with_fate c.args.draft.now.fates c.args.leaf (Put l false c.deref.result.now)) c.args.dir (Put k false c.deref-2.result.now)) c.lock_of.ensures c.lock_of-2.ensures)
