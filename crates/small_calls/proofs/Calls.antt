-- Whatever a call is, it writes few blocks.
use Rattle.std.proofs.Common.{◌≡◌, ◌^◌, ◌<◌, ◌≤◌, ℕ, inl, inr, Bool, true, false, List, [], ◌∷◌, length, refl, sym, ap, subst, ◌∙◌, arith, true≢false}
use Rattle.std.specs.Prelude.{◌&&◌, not}
use Rattle.std.proofs.lemmas.Bool.{cases_Bool}
use Rattle.crc_words.specs.Remainder.{crc32_of}
use Rattle.crc_words.proofs.FitLemmas.{crc32-fits}
use Rattle.file_tree.specs.Names.{last_of, parent_of}
use Rattle.file_tree.specs.Tree.{Tree}
use Rattle.file_tree.specs.declared.call.Call.{Call}
use Rattle.file_tree.specs.declared.call.Call.TheVariants as calls
use Rattle.file_tree.specs.declared.reply.Reply.{Reply}
use Rattle.file_tree.specs.declared.reply.Reply.TheVariants as replies
use Rattle.cluster_history.specs.Changes.{Changes, is_ok}
use Rattle.drafts.specs.declared.change.Change.{Change}
use Rattle.drafts.specs.declared.change.Written.{Written}
use Rattle.glock_names.specs.Views.{IsView, Seen}
use Rattle.growth_laws.specs.Laws.{FilesAreInodes, InodesAreFiles}
use Rattle.image_model.specs.Image.{Image}
use Rattle.image_model.specs.Owners.{Owners}
use Rattle.image_model.specs.Stands.{Layout}
use Rattle.image_changes.specs.Does.{is_empty, is_nothing}
use Rattle.file_calls.specs.Answers.{IsAnswered}
use Rattle.file_calls.specs.Making as making
use Rattle.file_calls.specs.Making.{name_in}
use Rattle.file_calls.specs.Moving as move_answers
use Rattle.file_calls.specs.Moving.{IsToMove}
use Rattle.file_calls.specs.MoveCarrying.{IsCarriedOut}
use Rattle.file_calls.specs.MoveEnds.{from_path, to_path}
use Rattle.file_calls.specs.NameMoving.{Move}
use Rattle.file_calls.specs.Removing as removing
use Rattle.file_calls.specs.Writing as writing
use Rattle.small_changes.specs.Counting.{IsOfProfile}
use Rattle.small_changes.proofs.Removing.{removals_are_small}
use Rattle.small_calls.specs.Sizes.{CallsAreSmall, IsOfScript}
use Rattle.small_calls.proofs.Making as making_few
use Rattle.small_calls.proofs.MovePlaces.{place_in}
use Rattle.small_calls.proofs.Moving as moving_few
use Rattle.small_calls.proofs.Writing as writing_few

none_written : (ws : List Written) (freed : Bool) → (is_empty ws && freed) ≡ true → length ws ≤ 0
none_written [] freed e = omega arith
none_written (w ∷ ws) freed e = absurd (true≢false (sym e))

-- a change of nothing writes none
nothing_few : (change : Change) → is_nothing change ≡ true → length change.blocks.items ≤ 375
nothing_few change none = let few = none_written change.blocks.items (is_empty change.freed.items) none in omega (arith, few)

ok_is : (r : Reply) → is_ok r ≡ true → r ≡ replies.Ok
ok_is replies.Ok e = refl
ok_is r e = absurd (true≢false (sym e))

made_not_refused : (v : Seen) (call : Call) (r : Reply) → making.IsRefused v call r → r ≡ replies.Ok → ⊥
made_not_refused v call _ (making.IsRefused.of_root e) ok = cc
made_not_refused v call _ (making.IsRefused.not_found e) ok = cc
made_not_refused v call _ (making.IsRefused.not_dir a e) ok = cc
made_not_refused v call _ (making.IsRefused.in_file a e f g h) ok = cc
made_not_refused v call _ (making.IsRefused.has_name a b e f g) ok = cc

module _ (v : Seen) (call : Call) (node time : ℕ) (change : Change) (im : Image) (o : Owners) (l : Layout) (t : Tree) (view : IsView v) (of : IsOfProfile v im o l t) (script : IsOfScript call) where
  name_hash : crc32_of (name_in call) < 2 ^ 32
  name_hash = crc32-fits (name_in call) (script.names false)

  made_few : (r : Reply) → r ≡ replies.Ok → making.IsAnswered v call node time r change → length change.blocks.items ≤ 375
  made_few _ ok (making.IsAnswered.refused r _ is) = absurd (made_not_refused v call r is ok)
  made_few _ ok (making.IsAnswered.made _ is) = let few = making_few.few v call node time change im o l t of name_hash is in omega (arith, few)

  edited_few : InodesAreFiles → FilesAreInodes → writing.IsEditAnswered v call node time replies.Ok change → length change.blocks.items ≤ 375
  edited_few files inodes (a, changes, is) = let few = writing_few.few v call node time change im o l t view of script files inodes a changes is in omega (arith, few)

  carried_few : (m : Move) → IsToMove v call m → IsCarriedOut v node time m change → length change.blocks.items ≤ 375
  carried_few m moves out =
      let meant = moves.meant in
      let name : m.new_name ≡ last_of (to_path call) = ap (λ (x : Move). x.new_name) meant.is in
      let hash : crc32_of (last_of (to_path call)) < 2 ^ 32 = crc32-fits (last_of (to_path call)) (script.names true) in
      let its_hash : crc32_of m.new_name < 2 ^ 32 = subst (λ n. crc32_of n < 2 ^ 32) (sym name) hash in
      let place = place_in v call m node out.need out.room im o l t of.is meant.ends (meant.images im o l t of.is).0 meant.is out.has its_hash in
      let few = moving_few.few v m out.room time change im o l t of view (parent_of (from_path call)) (parent_of (to_path call)) out.is place moves.can its_hash in
      omega (arith, few)

  moved_few : (r : Reply) → move_answers.IsAnswered v call node time r change → length change.blocks.items ≤ 375
  moved_few _ (move_answers.IsAnswered.refused r _ is none) = let e = ap (λ (ws : List Written). length ws) none.blocks in omega (arith, e)
  moved_few _ (move_answers.IsAnswered.stays _ is none) = let e = ap (λ (ws : List Written). length ws) none.blocks in omega (arith, e)
  moved_few _ (move_answers.IsAnswered.moved m _ moves out) = carried_few m moves out

module _ {V : Type 0} (seen : V → Seen) (view : V) (node time : ℕ) (reply : Reply) (change : Change) (im : Image) (o : Owners) (l : Layout) (t : Tree) (is_view : IsView (seen view)) (of : IsOfProfile (seen view) im o l t)
    (files : InodesAreFiles) (inodes : FilesAreInodes) where
  removed_few : (call : Call) (r : Reply) → r ≡ replies.Ok → removing.IsAnswered seen view call time r change → length change.blocks.items ≤ 375
  removed_few call _ ok (removing.IsAnswered.refused r _ bad is) = absurd (true≢false (sym (ap is_ok ok) ∙ bad))
  removed_few call _ ok (removing.IsAnswered.removed _ is) = let few = removals_are_small seen view im o l t call time change of is in omega (arith, few)

  changing_few : (call : Call) → IsOfScript call → Changes (record { call = call; reply = reply }) ≡ true → IsAnswered seen view call node time reply change → length change.blocks.items ≤ 375
  changing_few call script changes answered = by call script (ok_is reply (both_first (is_ok reply) _ changes)) changes answered
    where
      both_first : (a b : Bool) → (a && b) ≡ true → a ≡ true
      both_first true b e = refl
      both_first false b e = e

      never : (b : Bool) → (b && false) ≡ true → ⊥
      never true e = true≢false (sym e)
      never false e = true≢false (sym e)

      by : (call : Call) → IsOfScript call → reply ≡ replies.Ok → Changes (record { call = call; reply = reply }) ≡ true → IsAnswered seen view call node time reply change → length change.blocks.items ≤ 375
      by (calls.Create p) script ok changes is = made_few (seen view) (calls.Create p) node time change im o l t is_view of script reply ok is
      by (calls.Mkdir p) script ok changes is = made_few (seen view) (calls.Mkdir p) node time change im o l t is_view of script reply ok is
      by (calls.Unlink p) script ok changes is = removed_few (calls.Unlink p) reply ok is
      by (calls.Rmdir p) script ok changes is = removed_few (calls.Rmdir p) reply ok is
      by (calls.Write p at new) script ok changes is = edited_few (seen view) (calls.Write p at new) node time change im o l t is_view of script files inodes (subst (λ r. writing.IsEditAnswered (seen view) (calls.Write p at new) node time r change) ok is)
      by (calls.Truncate p size) script ok changes is = edited_few (seen view) (calls.Truncate p size) node time change im o l t is_view of script files inodes (subst (λ r. writing.IsEditAnswered (seen view) (calls.Truncate p size) node time r change) ok is)
      by (calls.Rename p q) script ok changes is = moved_few (seen view) (calls.Rename p q) node time change im o l t is_view of script reply is
      by (calls.Read p at count) script ok changes is = absurd (never (is_ok reply) changes)
      by (calls.Dread p at count) script ok changes is = absurd (never (is_ok reply) changes)
      by (calls.Stat p) script ok changes is = absurd (never (is_ok reply) changes)
      by (calls.List p) script ok changes is = absurd (never (is_ok reply) changes)
      by calls.Sync script ok changes is = absurd (never (is_ok reply) changes)

pub calls_are_small : {V : Type 0} (seen : V → Seen) → InodesAreFiles → FilesAreInodes → CallsAreSmall seen
calls_are_small seen files inodes view call node time reply change im o l t is_view of script does answered = elim (cases_Bool (is_nothing change)) [
  | inl none ↦ nothing_few change none
  | inr some ↦ changing_few seen view node time reply change im o l t is_view of files inodes call script (turned (Changes (record { call = call; reply = reply })) (sym does.tells ∙ some)) answered
]
  where
    turned : (b : Bool) → not b ≡ false → b ≡ true
    turned true e = refl
    turned false e = absurd (true≢false e)
