-- One node alone on an image: its calls.
use Rattle.std.proofs.Common.{ℕ, ◌≡◌, ◌⊎◌, inl, inr, true, false, List, Option, None, Some, refl, sym, ap, ◌∙◌}
use Rattle.std.specs.Prelude.{if◌then◌else◌, ◌||◌, is_some}
use Rattle.std.proofs.lemmas.Bool.{cases_Bool, cond-true, cond-false, true≢false}
use Rattle.file_tree.specs.declared.call.Call.TheVariants as calls
use Rattle.file_tree.specs.declared.reply.Reply.TheVariants as replies
use Rattle.cluster_laws.specs.Book.{Seen as SeenBy}
use Rattle.cluster_laws.specs.Contents.{AnswersByView}
use Rattle.cluster_laws.specs.Files.{Part}
use Rattle.cluster_laws.specs.Notes.{CachesAfter}
use Rattle.cluster_laws.specs.World.{World}
use Rattle.cluster_laws.proofs.Bridging.{answers_are_done}
use Rattle.cluster_laws.proofs.Cells.{none-some, seen_in}
use Rattle.image_changes.specs.Does.{bytes_for, frees, has_block}
use Rattle.image_machine.specs.Cells.{BlockCell, cells_of}
use Rattle.image_machine.specs.Volumes.{Volume, images_of}
use Rattle.image_machine.proofs.Answering.{Drawn, done_is_answered, drawn, freed, spaceless_is_answered, sync_is_answered, untouched, wrote}
use Rattle.image_machine.proofs.Fitting.{images_stand}
use Rattle.lone_machine.specs.Alone.{AreOfNow, Begun, IsAlone, MayAnswer, now}
use Rattle.lone_machine.specs.Laws.{GoesOnWith, KeepsCached}
use Rattle.lone_machine.proofs.Going.{answers_alone, sound, syncs_alone}
use Rattle.lone_images.specs.Lone.{CallsGoOn, ChangesMakeVersions, ImagesBegin, SpacelessGoesOn, SyncGoesOn, answered, cache_after, kept_cell, version_with}
use Rattle.tree_histories.specs.Trees.{Told, Trees, rules_of}

pub images_begin : ImagesBegin
images_begin im o l t s = record { stands = images_stand im o l t s; same = λ b. inl refl }

-- ---- what the node has cached

module _ (v : Volume) (s : Begun (Trees (images_of v))) (w : World (Trees (images_of v))) (a : IsAlone (Trees (images_of v)) s w) where
  cached_now : AreOfNow (Trees (images_of v)) s w (w.book.cache s.node)
  cached_now b x e = (of_now, λ un. c.held (ap (λ f. f (x.place).lock) a.held ∙ un))
    where
      c : SeenBy (Trees (images_of v)) w.book s.node (w.book.answered s.node) b x
      c = (sound (Trees (images_of v)) s w a).whole.cached s.node b x e

      of_now : now (Trees (images_of v)) w b ≡ x
      of_now = seen_in (Trees (images_of v)) w.book s.node (w.book.answered s.node) b x w.book.answered c refl

  -- what is cached behind a change is the change's, or was cached
  cached_after : (change : Part (Trees (images_of v))) (b : ℕ) (x : BlockCell) → cache_after v s w change b ≡ Some x → (change b ≡ Some x) ⊎ ((change b ≡ None) × (w.book.cache s.node b ≡ Some x))
  cached_after change b x e = by (change b) refl e
    where
      by : (o : Option BlockCell) → change b ≡ o → kept_cell o (w.book.cache s.node b) ≡ Some x → (change b ≡ Some x) ⊎ ((change b ≡ None) × (w.book.cache s.node b ≡ Some x))
      by None same e = inr (same, e)
      by (Some y) same e = elim (cases_Bool (y.place).free) [
        | inl free ↦ absurd (none-some (cond-true _ None (Some y) free) e)
        | inr used ↦ inl (same ∙ sym (cond-false _ None (Some y) used) ∙ e)
      ]

  its_cache : (change : Part (Trees (images_of v))) → CachesAfter (Trees (images_of v)) w.book w.disk s.node change (cache_after v s w change)
  its_cache change = record {
    written = λ b x e used. ap (λ o. kept_cell o (w.book.cache s.node b)) e ∙ written x used;
    no_more = λ b x none e. sym (ap (λ o. kept_cell o (w.book.cache s.node b)) none) ∙ e;
    no_less = λ b none. inl (ap (λ o. kept_cell o (w.book.cache s.node b)) none);
  }
    where
      written : (x : BlockCell) → ((x.place).free ≡ true → ⊥) → (if (x.place).free then None else Some x) ≡ Some x
      written x used = elim (cases_Bool (x.place).free) [ inl free ↦ absurd (used free) | inr not ↦ cond-false _ None (Some x) not ]

  module _ (said : Told) (change : Part (Trees (images_of v))) (by_view : AnswersByView (rules_of (images_of v)) s.held (w.book.cache s.node) said change) where
    may : MayAnswer (Trees (images_of v)) s w said (w.book.cache s.node) change (cache_after v s w change)
    may =
        let done = answers_are_done (rules_of (images_of v)) s.held (w.book.cache s.node) change said by_view in
        record {
          sees = cached_now;
          does = done.0;
          guards = done.1;
          tells = done.2;
          tracks = done.3;
          cached = λ b x e. elim (cached_after change b x e) [ inl new ↦ inl new | inr old ↦ (let n = cached_now b x old.1 in inr (old.0, n.0, n.1)) ];
        }

    goes_on : ((said.call ≡ calls.Sync) × (said.reply ≡ replies.Ok) → ⊥)
        → GoesOnWith (Trees (images_of v)) s w (answered v s w said change) said change × KeepsCached (Trees (images_of v)) s w (answered v s w said change)
    goes_on no_sync =
        let g = answers_alone (Trees (images_of v)) s w said (w.book.cache s.node) change (cache_after v s w change) a no_sync may in
        (g.0, g.1 (its_cache change))

pub calls_go_on : CallsGoOn
calls_go_on v s w seen said change a no_sync is has holds inside does =
    goes_on v s w a said (cells_of v change) (done_is_answered v seen (w.book.cache s.node) s.held said.client said.call said.reply change is has holds inside does) no_sync

no_ok : replies.NoSpace ≡ replies.Ok → ⊥
no_ok e = cc

pub spaceless_goes_on : SpacelessGoesOn
spaceless_goes_on v s w seen client call a is has takes taken =
    goes_on v s w a (record { client = client; call = call; reply = replies.NoSpace }) (λ b. None) (spaceless_is_answered v seen (w.book.cache s.node) s.held client call is has takes taken) (λ so. no_ok so.1)

pub sync_goes_on : SyncGoesOn
sync_goes_on v s w client a calm =
    let done = answers_are_done (rules_of (images_of v)) s.held (λ b. None) (λ b. None) (record { client = client; call = calls.Sync; reply = replies.Ok }) (sync_is_answered v (λ b. None) s.held client) in
    syncs_alone (Trees (images_of v)) s w (record { client = client; call = calls.Sync; reply = replies.Ok }) a (done.0) refl calm

-- ---- the versions of its log

pub changes_make_versions : ChangesMakeVersions
changes_make_versions v seen call reply change versions gone gone' does goes b = by (drawn v change does.form.locks b)
  where
    version_none : bytes_for change.blocks.items b ≡ None → version_with change versions b ≡ (if frees change b then None else versions b)
    version_none e = ap (λ (o : Option (List ℕ)). elim o [ Some bytes ↦ Some bytes | None ↦ if frees change b then None else versions b ]) e

    by : Drawn v change b → ((cells_of v change b ≡ None) × (version_with change versions b ≡ versions b) × (gone' b ≡ gone b))
        ⊎ ((x : BlockCell) × (cells_of v change b ≡ Some x) × ((((x.place).free ≡ true) × (version_with change versions b ≡ None))
        ⊎ (((x.place).free ≡ true → ⊥) × (version_with change versions b ≡ Some (x.content)) × (gone' b ≡ false))))
    by (wrote i u lock at at' same e f) =
        inr (_, f, inr ((λ is. true≢false (sym is)), ap (λ (o : Option (List ℕ)). elim o [ Some bytes ↦ Some bytes | None ↦ if frees change b then None else versions b ]) e, goes.written b (ap is_some e)))
    by (freed e is f) = inr (_, f, inl (refl, version_none e ∙ cond-true _ None (versions b) is))
    by (untouched e kept f) = inl (f, version_none e ∙ cond-false _ None (versions b) kept, goes.others b (has_none e kept))
      where
        has_none : bytes_for change.blocks.items b ≡ None → frees change b ≡ false → has_block change b ≡ false
        has_none e f = λ i. is_some (e i) || f i
