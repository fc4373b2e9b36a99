-- An answer whose draft makes one of the four changes means what it should; and which inodes are no journal.
use Rattle.std.proofs.Common.{◌≡◌, ◌⊎◌, ℕ, suc, inl, inr, Bool, true, false, not, ◌&&◌, List, [], ◌∷◌, Option, None, Some, slice_get, refl, sym, ap, ◌∙◌, subst}
use Rattle.std.specs.Prelude.{◌||◌, ◌==◌, is_some, if◌then◌else◌}
use Rattle.std.specs.List.{list_any}
use Rattle.std.specs.Ordering.{nat_cmp}
use Rattle.std.specs.FinMap.{FinMap, get}
use Rattle.std.proofs.lemmas.Bool.{ne_eqb, true≢false}
use Rattle.file_tree.specs.Tree.{Tree}
use Rattle.file_tree.specs.Apply.{Answer, apply}
use Rattle.file_tree.specs.declared.call.Call.{Call}
use Rattle.file_tree.specs.declared.reply.Reply.{Reply}
use Rattle.glock_names.specs.Views.{Seen}
use Rattle.glock_names.specs.declared.LockName.{LockName}
use Rattle.glock_names.specs.declared.State.TheVariants.{Ex}
use Rattle.drafts.specs.declared.change.Change.{Change}
use Rattle.drafts.specs.declared.change.Written.{Written}
use Rattle.drafts.specs.declared.fate.Fate.{Fate}
use Rattle.drafts.specs.declared.fate.Fate.TheVariants.{Put, Freed}
use Rattle.drafts.specs.Fates.{block_with}
use Rattle.image_model.specs.Flat.{Path}
use Rattle.image_model.specs.Image.{Image}
use Rattle.image_model.specs.Journals.{journal_name}
use Rattle.image_model.specs.Owners.{Owner, Owners, Super, InGroup, Free, Nobody, Root, Master, Named, Below, Chained}
use Rattle.image_model.specs.Stands.{Layout, IsJournalAt, IsLaid}
use Rattle.image_model.proofs.Held.{some_same}
use Rattle.image_changes.specs.Changes.{SystemStays, cover, is_free, place_of}
use Rattle.image_changes.specs.Instances.{StandsBy, IsAt}
use Rattle.image_changes.specs.Laws.{OwnLocks}
use Rattle.image_changes.specs.Does.{bytes_for, with_change, has_block, is_empty, IsHeld, IsWritten, IsFreed, GroupsAreWritten, DoesIn}
use Rattle.image_changes.specs.Drafted.{is_put, is_freed, is_drafted, with_draft, IsFinished, IsOfDraft, IsOneOfFour, file_changed, name_added, name_removed, name_moved, MakesIn, DraftsDo}
use Rattle.image_changes.proofs.Frame.{others_stay}
use Rattle.image_changes.proofs.Laid.{journal_apart, journal_owner}
use Rattle.image_changes.proofs.FileChange.{file_changes}
use Rattle.image_changes.proofs.NameAdded.{name_is_added}
use Rattle.image_changes.proofs.NameRemoved.{name_is_removed}
use Rattle.image_changes.proofs.NameMoved.{name_is_moved}
use Rattle.image_changes.proofs.Finishing.{finish_makes}

-- ---- which inodes are no journal

listed : (ds : List ℕ) (a : ℕ) → ((j : ℕ) → slice_get ds j ≡ Some a → ⊥) → list_any (λ d. d == a) ds ≡ false
listed [] a not = refl
listed (d ∷ ds) a not = ap (λ t. t || list_any (λ d. d == a) ds) (ne_eqb d a (λ e. not 0 (ap Some e))) ∙ listed ds a (λ j e. not (suc j) e)

no_journal : (im : Image) (o : Owners) (l : Layout) → IsLaid im o l → (a : ℕ) → ((path : Path) × IsAt im o l path a) ⊎ ((g : ℕ) × (o a ≡ Free g)) → (j : ℕ) → IsJournalAt l j a → ⊥
no_journal im o l laid a (inl found) j at = journal_apart im o l laid found.0 j a at found.1
no_journal im o l laid a (inr free) j at = differ (sym (journal_owner im o l laid j a at) ∙ free.1)
  where
    differ : Named l.jindex (journal_name j) ≡ Free free.0 → ⊥
    differ e = cc

pub own_locks : OwnLocks
own_locks im o l a laid which = ap (λ t. if t then None else Some (record { kind = 2; number = a })) (listed l.journals a (no_journal im o l laid a which))

-- ---- what a change leaves standing

record Leaves (im im' : Image) (o o' : Owners) (l : Layout) (written : ℕ → Bool) (t : Tree) : Type 0 where
  stands : StandsBy im' o' l t
  system : SystemStays im im' o o' l
  others : (b : ℕ) → written b ≡ false → place_of l o' b ≡ place_of l o b

leaves : (im im' : Image) (o o' : Owners) (l : Layout) (written : ℕ → Bool) (t u : Tree) → StandsBy im o l t → IsOneOfFour im im' o o' l written t u → Leaves im im' o o' l written u
leaves im im' o o' l written t u s (file_changed path a at c) =
    let r = file_changes im im' o o' l written a path t s at c in
    record { stands = r.0; system = r.1; others = λ b away. (others_stay im im' o o' l _ written c.change b away).1 }
leaves im im' o o' l written t u s (name_added path parent name a v at c) =
    let r = name_is_added im im' o o' l written parent name a v path t s at c in
    record { stands = r.0; system = r.1; others = λ b away. (others_stay im im' o o' l _ written c.change b away).1 }
leaves im im' o o' l written t u s (name_removed path parent name a at c) =
    let r = name_is_removed im im' o o' l written parent name a path t s at c in
    record { stands = r.0; system = r.1; others = λ b away. (others_stay im im' o o' l _ written c.change b away).1 }
leaves im im' o o' l written t u s (name_moved path path' from name to name' a v at at' there beside c) =
    let r = name_is_moved im im' o o' l written from name to name' a path path' t v s at at' there beside c in
    record { stands = r.0; system = r.1; others = λ b away. (others_stay im im' o o' l _ written c.change b away).1 }

-- ---- the locks of its blocks

put_there : (f : Option Fate) → is_some (block_with f None) ≡ true → (w : Written) × (lock : LockName) × (f ≡ Some (Put lock w.plain w.bytes))
put_there (Some (Put lock plain bytes)) e = (record { block = 0; plain = plain; bytes = bytes }, lock, refl)
put_there (Some Freed) e = absurd (true≢false (sym e))
put_there None e = absurd (true≢false (sym e))

pub free_group : (x : Owner) → is_free x ≡ true → (g : ℕ) × (x ≡ Free g)
free_group (Free g) e = (g, refl)
free_group Super e = absurd (true≢false (sym e))
free_group (InGroup g) e = absurd (true≢false (sym e))
free_group Nobody e = absurd (true≢false (sym e))
free_group Root e = absurd (true≢false (sym e))
free_group Master e = absurd (true≢false (sym e))
free_group (Named parent name) e = absurd (true≢false (sym e))
free_group (Below d parent k level first) e = absurd (true≢false (sym e))
free_group (Chained d hash place) e = absurd (true≢false (sym e))

pub either : (a b : Bool) → (a || b) ≡ true → (a ≡ true) ⊎ (b ≡ true)
either true b e = inl refl
either false b e = inr e

some_written : (ws : List Written) (b : ℕ) → is_some (bytes_for ws b) ≡ true → is_empty ws ≡ false
some_written [] b e = absurd (true≢false (sym e))
some_written (w ∷ ws) b e = refl

module _ (v : Seen) (call : Call) (reply : Reply) (fates : FinMap nat_cmp Fate)
    (exclusive : (b : ℕ) (lock : LockName) (plain : Bool) (bytes : List ℕ) → get fates b ≡ Some (Put lock plain bytes) → v.state_of lock ≡ Ex)
    (im : Image) (o : Owners) (l : Layout) (t : Tree) (makes : MakesIn v call reply fates im o l t) where
  -- a block that is put, with what is told of it
  record IsPutHere (b : ℕ) : Type 0 where
    lock : LockName
    held : v.state_of lock ≡ Ex
    right : (plain : Bool) × (bytes : List ℕ) × IsWritten l (with_draft im fates) o makes.owners (record { block = b; plain = plain; bytes = bytes }) lock

  put_here : (b : ℕ) → is_put fates b ≡ true → IsPutHere b
  put_here b puts =
      let p = put_there (get fates b) puts in
      record {
        lock = p.1;
        held = exclusive b p.1 p.0.plain p.0.bytes p.2;
        right = (p.0.plain, p.0.bytes, makes.written (record { block = b; plain = p.0.plain; bytes = p.0.bytes }) p.1 p.2);
      }

  written_held : (b : ℕ) → is_put fates b ≡ true → IsHeld v l makes.owners b
  written_held b puts = let p = put_here b puts in (p.lock, p.right.2.told, p.held)

  -- of a group of which a block is taken or freed the lock is held
  group_held : (b g : ℕ) → is_drafted fates b ≡ true → (o b ≡ Free g) ⊎ (makes.owners b ≡ Free g) → v.state_of (record { kind = 3; number = g }) ≡ Ex
  group_held b g has which =
      let n = makes.groups b g has which in
      let h = written_held n.0 n.1 in
      subst (λ k. v.state_of k ≡ Ex) (some_same (sym h.1 ∙ ap (cover l n.0) n.2)) h.2

  was_free : (b : ℕ) → is_drafted fates b ≡ true → is_free (o b) ≡ true → IsHeld v l o b
  was_free b has free = let g = free_group (o b) free in (record { kind = 3; number = g.0 }, ap (cover l b) g.1, group_held b g.0 has (inl g.1))

  is_freed_now : (b : ℕ) → is_drafted fates b ≡ true → is_free (makes.owners b) ≡ true → IsHeld v l makes.owners b
  is_freed_now b has free = let g = free_group (makes.owners b) free in (record { kind = 3; number = g.0 }, ap (cover l b) g.1, group_held b g.0 has (inr g.1))

  before : (b : ℕ) → is_drafted fates b ≡ true → IsHeld v l o b
  before b has = elim (either (is_put fates b) (is_freed fates b) has) [
    | inr gone ↦ makes.held b gone
    | inl puts ↦
        let p = put_here b puts in
        elim p.right.2.stayed [ inl same ↦ (p.lock, same, p.held) | inr free ↦ was_free b has free ]
  ]

  after : (b : ℕ) → is_drafted fates b ≡ true → IsHeld v l makes.owners b
  after b has = elim (either (is_put fates b) (is_freed fates b) has) [
    | inr gone ↦ is_freed_now b has (makes.freed b gone).free
    | inl puts ↦ written_held b puts
  ]

  does_in : (change : Change) → IsFinished fates change → StandsBy im o l t → DoesIn v call reply change im o l t
  does_in change finished stands = record {
    replies = ap (λ (a : Answer). a.reply) makes.answers;
    owners = makes.owners;
    stands = subst (λ z. StandsBy z makes.owners l (apply call t).tree) (sym image) (subst (StandsBy (with_draft im fates) makes.owners l) (sym (ap (λ (a : Answer). a.tree) makes.answers)) left.stands);
    system = subst (λ z. SystemStays im z o makes.owners l) (sym image) left.system;
    before = λ b has. before b (sym (drafted b) ∙ has);
    after = λ b has. after b (sym (drafted b) ∙ has);
    written = λ i w lock at at'. subst (λ z. IsWritten l z o makes.owners w lock) (sym image) (makes.written w lock (d.told i w lock at at'));
    freed = λ b gone. subst (λ (z : (ℕ → Bool) × (ℕ → Bool)). IsFreed z.0 z.1 o makes.owners b) (λ i. ((λ c. sym (d.puts c) i), (λ c. sym (d.gone c) i))) (makes.freed b (sym (d.gone b) ∙ gone));
    groups = subst (λ (z : (ℕ → Bool) × (ℕ → Bool)). GroupsAreWritten z.0 z.1 o makes.owners) (λ i. ((λ c. sym (d.puts c) i), (λ c. sym (drafted c) i))) makes.groups;
    others = λ b away. left.others b (sym (drafted b) ∙ away);
  }
    where
      d : IsOfDraft fates change
      d = finish_makes fates change finished

      image : with_change im change ≡ with_draft im fates
      image = d.image im

      left : Leaves im (with_draft im fates) o makes.owners l (is_drafted fates) makes.tree
      left = leaves im (with_draft im fates) o makes.owners l (is_drafted fates) t makes.tree stands makes.one

      drafted : (b : ℕ) → has_block change b ≡ is_drafted fates b
      drafted b = λ i. d.puts b i || d.gone b i

pub drafts_do : DraftsDo
drafts_do v call reply fates change finished changing some puts exclusive makes = record {
  form = d.form;
  tells = ap (λ e. e && is_empty change.freed.items) (some_written change.blocks.items some (d.puts some ∙ puts)) ∙ sym (ap not changing);
  images = λ im o l t is. does_in v call reply fates (exclusive im o l t is) im o l t (makes im o l t is) change finished is.stands;
}
  where
    d : IsOfDraft fates change
    d = finish_makes fates change finished
