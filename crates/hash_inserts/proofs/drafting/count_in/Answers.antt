use Rattle.std.proofs.Common.{◌≡◌, ◌∙◌, List, ℕ, Some, false, length, drop, refl, sym, ap, ap₂, subst}
use Rattle.std.proofs.lemmas.List.{take_at}
use Rattle.std.specs.FinMap.{insert as with_fate}
use Rattle.std.specs.Option.{option_map}
use Rattle.drafts.specs.declared.fate.Fate.TheVariants.{Put}
use Rattle.gfs2_layout.specs.Structures.{dinode_of}
use Rattle.hash_inserts.specs.Writing.{CanCount, IsDinodeWritten, counting}
use Rattle.hash_inserts.proofs.drafting.count_in.Goals as goal

one_bytes : (x y : List ℕ) → Some x ≡ Some y → x ≡ y
one_bytes x y e = cc

pub returns-clause-put : goal.returns-clause-put
returns-clause-put g c bytes there can =
    let is : c.in-Some.bytes.items ≡ bytes = one_bytes c.in-Some.bytes.items bytes (ap (option_map (λ copy. copy.items)) (sym c.in-Some.is) ∙ c.in_ok-bytes.ensures.bytes ∙ there) in
    let read : c.deref_mut.result.now ≡ bytes = c.deref_mut.ensures.value ∙ is in
    let done = c.if-not-count_more.ensures (subst (λ b. CanCount b c.args.records c.args.links c.args.blocks) (sym read) can) in
    (refl, (c.count_more.new.bytes, subst (λ b. IsDinodeWritten b c.count_more.new.bytes (counting (dinode_of b) c.args.records c.args.links c.args.blocks)) read done.1, c.in_ok-put.ensures.ok ∙ ap₂ (λ l b. record c.args.draft.now { fates = with_fate c.args.draft.now.fates c.args.dir (Put l false b) }) c.lock_of.ensures (c.deref.ensures.value ∙ take_at c.count_more.new.bytes (drop (length c.count_more.new.bytes) c.in-Some.bytes.items) c.in-Some.bytes.len (c.count_more.auto.bytes ∙ c.deref_mut.ensures.len))))
