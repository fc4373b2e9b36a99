-- A node with its log reads a block that it doesn't keep.
use Rattle.std.proofs.Common.{◌≡◌, ℕ, zero, suc, inl, inr, Bool, true, false, List, [], ◌∷◌, Option, None, Some, refl, sym, ap, ◌∙◌, arith}
use Rattle.std.specs.Prelude.{◌==◌, ◌||◌, slice_get, cond}
use Rattle.std.specs.FinMap as table
use Rattle.std.specs.List.{list_any}
use Rattle.std.specs.Option.{option_map}
use Rattle.std.specs.Ordering.{eq_by_cmp, nat_cmp}
use Rattle.std.proofs.lemmas.Bool.{cases_eq, cond-true, eq-eqb}
use Rattle.std.proofs.lemmas.Cmp.{nat_cmp_total}
use Rattle.finite_maps.proofs.Keys.{tied, untied}
use Rattle.file_tree.specs.Tree.{Tree}
use Rattle.cluster_laws.specs.Book.{Seen as SeenBy}
use Rattle.cluster_laws.specs.Contents.{contents, places}
use Rattle.cluster_laws.specs.Files.{Agrees, Un, laid}
use Rattle.cluster_laws.specs.World.{World}
use Rattle.cluster_laws.proofs.Bridging.{needs_are_done}
use Rattle.cluster_laws.proofs.Cells.{at-other, at-same, seen_in}
use Rattle.glock_names.specs.Views.{Seen}
use Rattle.glock_names.specs.declared.LockName.{LockName}
use Rattle.image_changes.specs.Changes.{Place, cover, inode_lock, is_free}
use Rattle.image_changes.specs.Does.{IsOf}
use Rattle.image_machine.specs.Cells.{BlockCell, HasBlocksOf}
use Rattle.image_machine.specs.Volumes.{IsPlace, StandsAt, Volume, images_of}
use Rattle.image_machine.proofs.Answering.{missing_is_needed}
use Rattle.image_machine.proofs.Unminded.{is_ring_place}
use Rattle.image_model.specs.Image.{Image}
use Rattle.image_model.specs.Owners.{Owners}
use Rattle.image_model.specs.Stands.{IsJournalAt, Layout}
use Rattle.image_model.proofs.Held.{none_some, some_same}
use Rattle.lone_images.specs.Lone.{all_locks}
use Rattle.lone_machine.specs.Alone.{Begun, now, reads}
use Rattle.lone_machine.specs.Laws.{StaysAlone}
use Rattle.lone_machine.proofs.Going.{reads_alone, sound}
use Rattle.tree_histories.specs.Trees.{rules_of}
use Rattle.lone_logs.specs.Laws.{IsItsView, ReadsAreLogged, StaysLogged, read_of}
use Rattle.lone_logs.specs.States.{IsLoggedNode, NodeState, trees_on}
use Rattle.lone_logs.proofs.Booking.{booked, has_versions}

-- ---- journals have no lock

listed : (ds : List ℕ) (j d : ℕ) → slice_get ds j ≡ Some d → list_any (λ x. x == d) ds ≡ true
listed [] j d at = absurd (none_some at)
listed (c ∷ ds) zero d at = ap (λ t. t || list_any (λ x. x == d) ds) (eq-eqb c d (some_same at))
listed (c ∷ ds) (suc j) d at = ap (λ t. (c == d) || t) (listed ds j d at) ∙ or_true (c == d)
  where
    or_true : (t : Bool) → (t || true) ≡ true
    or_true true = refl
    or_true false = refl

no_lock : (l : Layout) (j d : ℕ) → IsJournalAt l j d → inode_lock l d ≡ None
no_lock l j d at = cond-true _ None (Some (record { kind = 2; number = d })) (listed l.journals j d at)

-- ---- what the node keeps and what the machine has cached

pub no_bytes : (o : Option BlockCell) → option_map (λ (x : BlockCell). x.content) o ≡ None → o ≡ None
no_bytes None e = refl
no_bytes (Some x) e = absurd (none_some (sym e))

pub its_cell : (o : Option BlockCell) (bytes : List ℕ) → option_map (λ (x : BlockCell). x.content) o ≡ Some bytes → (x : BlockCell) × (o ≡ Some x) × (x.content ≡ bytes)
its_cell None bytes e = absurd (none_some e)
its_cell (Some x) bytes e = (x, refl, some_same e)

module _ (v : Volume) (s : Begun (trees_on v)) (w : World (trees_on v)) (d : ℕ) (st : NodeState) (is : IsLoggedNode v s w d st) where
  -- the image with all its calls stands for a tree
  pub now_stands : (t : Tree) × StandsAt v (contents (now (trees_on v) w)) (places (now (trees_on v) w)) t
  now_stands =
      let whole = (sound (trees_on v) s w is.alone).whole in
      whole.stands w.book.answered (λ i. ((let low = whole.low_published i in let high = whole.published_answered i in omega (arith, low, high)), omega arith))

  pub cache_agrees : Agrees (trees_on v) (w.book.cache s.node) (now (trees_on v) w)
  cache_agrees b x e =
      let c : SeenBy (trees_on v) w.book s.node (w.book.answered s.node) b x = (sound (trees_on v) s w is.alone).whole.cached s.node b x e in
      seen_in (trees_on v) w.book s.node (w.book.answered s.node) b x w.book.answered c refl

  pub view_cached : (seen : Seen) → IsItsView v st seen → HasBlocksOf seen (w.book.cache s.node)
  view_cached seen its b bytes e = its_cell (w.book.cache s.node b) bytes (sym (is.keeps b) ∙ sym (its.blocks b) ∙ e)

  -- no lock covers a place of a journal
  pub place_unlocked : (b : ℕ) → IsPlace v b → ((now (trees_on v) w b).place).lock ≡ None
  place_unlocked b place =
      let stand = now_stands.1 in
      let ring = is_ring_place v (contents (now (trees_on v) w)) (places (now (trees_on v) w)) now_stands.0 stand b place in
      ap (λ (p : Place). p.lock) (stand.told b) ∙ ap (cover v.layout b) ring.6 ∙ no_lock v.layout ring.0 ring.1 ring.5

  module _ (seen : Seen) (b : ℕ) (lock : LockName) (its : IsItsView v st seen) (unkept : table.get st.kept b ≡ None)
      (needs : (im : Image) (o : Owners) (l : Layout) (t : Tree) → IsOf seen im o l t → (cover l b (o b) ≡ Some lock) × (is_free (o b) ≡ false)) where
    needed : (((now (trees_on v) w b).place).lock ≡ Some lock) × (((now (trees_on v) w b).place).free ≡ true → ⊥)
    needed = needs_are_done (rules_of (images_of v)) (w.book.cache s.node) b (Some lock) (missing_is_needed v seen (w.book.cache s.node) b lock its.volume (view_cached seen its) needs)
        (now (trees_on v) w) now_stands.0 cache_agrees now_stands.1

    off : IsPlace v b → ⊥
    off place = none_some (sym (place_unlocked b place) ∙ needed.0)

    holds : s.held (((now (trees_on v) w b).place).lock) ≡ Un → ⊥
    holds un = not_un (sym (ap (λ f. f (((now (trees_on v) w b).place).lock)) is.held ∙ ap all_locks needed.0) ∙ un)
      where
        not_un : all_locks (Some lock) ≡ Un → ⊥
        not_un e = cc

    uncached : w.book.cache s.node b ≡ None
    uncached = no_bytes (w.book.cache s.node b) (sym (is.keeps b) ∙ unkept)

    reading : (laid (w.disk.flight s.node b) (w.disk.blocks b) ≡ (now (trees_on v) w b).content) × StaysAlone (trees_on v) s w (reads (trees_on v) s w b)
    reading = reads_alone (trees_on v) s w b is.alone is.cached uncached holds needed.1

    pub read_is : read_of st b ≡ (now (trees_on v) w b).content
    read_is = ap (λ o. laid o (st.image.at b)) (sym (is.flights b off)) ∙ ap (laid (w.disk.flight s.node b)) (sym (is.disk.blocks b off)) ∙ reading.0

    abbrev w' : World (trees_on v)
    w' = reads (trees_on v) s w b

    cache_here : w'.book.cache s.node b ≡ Some (now (trees_on v) w b)
    cache_here = ap (λ f. f b) (at-same w.book.cache s.node _) ∙ at-same (w.book.cache s.node) b (Some (now (trees_on v) w b))

    cache_other : (c : ℕ) → (c ≡ b → ⊥) → w'.book.cache s.node c ≡ w.book.cache s.node c
    cache_other c other = ap (λ f. f c) (at-same w.book.cache s.node _) ∙ at-other (w.book.cache s.node) b (Some (now (trees_on v) w b)) c other

    keeps : (c : ℕ) → table.get (table.insert st.kept b (read_of st b)) c ≡ option_map (λ (x : BlockCell). x.content) (w'.book.cache s.node c)
    keeps c = elim (cases_eq c b) [
      | inl same ↦ table.get-insert nat_cmp_total st.kept b (read_of st b) c
          ∙ ap (λ t. cond t (Some (read_of st b)) (table.get st.kept c)) (ap (λ q. eq_by_cmp nat_cmp q b) same ∙ tied nat_cmp_total b)
          ∙ ap Some read_is
          ∙ sym (ap (λ q. option_map (λ (x : BlockCell). x.content) (w'.book.cache s.node q)) same ∙ ap (option_map (λ (x : BlockCell). x.content)) cache_here)
      | inr other ↦ table.get-insert nat_cmp_total st.kept b (read_of st b) c
          ∙ ap (λ t. cond t (Some (read_of st b)) (table.get st.kept c)) (untied table.nat_cmp-IsAntisymmetric c b other)
          ∙ is.keeps c
          ∙ sym (ap (option_map (λ (x : BlockCell). x.content)) (cache_other c other))
    ]

    pub read : StaysLogged v s w d (record st { kept = table.insert st.kept b (read_of st b) })
    read = record {
      world = w';
      now = refl;
      items = refl;
      is = booked v s w d st is w'.book w.items w.sure st.log.fresh st.log.gone (table.insert st.kept b (read_of st b)) st.numbers reading.1.alone is.start is.sound refl
          (record { answered = is.numbers.answered; low = is.numbers.low; begun = is.numbers.begun; changed = is.numbers.changed; calm = is.numbers.calm })
          (has_versions v s w w' st.log st.numbers st.log.flush is.numbers.begun.1 (λ m c less. refl) is.versions)
          (reading.1.cached is.cached) keeps
          (λ c e at off_home used. elim (cases_eq c b) [
            | inl same ↦ ap (w'.book.cache s.node) same ∙ cache_here ∙ sym (ap (λ q. Some (now (trees_on v) w q)) same)
            | inr other ↦ cache_other c other ∙ is.away c e at off_home used
          ])
          is.may;
    }

pub reads_are_logged : ReadsAreLogged
reads_are_logged v s w d st seen b lock is its unkept needs = (read_is v s w d st is seen b lock its unkept needs, read v s w d st is seen b lock its unkept needs)
