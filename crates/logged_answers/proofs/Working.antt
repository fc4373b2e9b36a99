-- The image with all calls of the node stands, and has what the node keeps and reads.
use Rattle.std.proofs.Common.{◌≡◌, ◌<◌, ℕ, inl, inr, true, false, List, length, Option, None, Some, refl, sym, ap, subst, ◌∙◌, true≢false, arith}
use Rattle.std.specs.Prelude.{IsTrue, nat_lt, unwrap_or}
use Rattle.std.specs.FinMap as table
use Rattle.std.proofs.lemmas.Bool.{cases_eq, cases_lt, cond-false, cond-true, le-ltb}
use Rattle.file_tree.specs.Tree.{Tree}
use Rattle.cluster_history.specs.History.{tree_of}
use Rattle.cluster_laws.specs.Book.{Numbered, kept_by}
use Rattle.cluster_laws.specs.Contents.{contents, places}
use Rattle.cluster_laws.specs.Files.{RightTo, Un, laid}
use Rattle.cluster_laws.specs.History.{living, saids}
use Rattle.cluster_laws.specs.World.{Sound, World}
use Rattle.cluster_laws.proofs.Histories.{kept_by-all}
use Rattle.glock_names.specs.declared.LockName.{LockName}
use Rattle.image_changes.specs.Changes.{Place, cover, is_free}
use Rattle.image_changes.specs.Does.{IsOf}
use Rattle.image_machine.specs.Cells.{BlockCell}
use Rattle.image_machine.specs.Volumes.{IsPlace, StandsAt, Volume, fitted, image_with, images_of}
use Rattle.image_machine.proofs.Fitting.{as_told, fitted_whole, inside}
use Rattle.image_model.specs.Image.{Image}
use Rattle.image_model.proofs.Held.{none_some}
use Rattle.journal_outcomes.specs.Disks.{flown_by}
use Rattle.logged_steps.specs.Reading.{WorksOn}
use Rattle.lone_images.specs.Lone.{all_locks}
use Rattle.logged_steps.specs.LoggedLaws.{IsItsView}
use Rattle.logged_steps.specs.States.{IsLoggedNode, NodeState, trees_on}
use Rattle.logged_steps.proofs.Reading.{cache_agrees, no_bytes, place_unlocked, view_cached}
use Rattle.lone_machine.specs.Alone.{Begun, now}
use Rattle.lone_machine.proofs.Going.{reads_alone, sound}
use Rattle.lone_view.specs.Seeing.{seen_alone}
use Rattle.run_rules.specs.Follows as run
use Rattle.script_lang.specs.declared.script.Client.{Client}
use Rattle.shared_disk.specs.Disk.{DiskState, IsSound, flight_to, read_gives, settled, written}
use Rattle.tree_histories.specs.Trees.{history_of}
use Rattle.tree_histories.proofs.Joining.{agree}
use Rattle.logged_steps.specs.Laws.{IsLoggedAt}
use Rattle.logged_steps.specs.Points.{Point, state_of}
use Rattle.logged_steps.proofs.Disks.{sound_barrier}
use Rattle.logged_answers.specs.Working.{NodesWorkOnAnImage, WorksAt}

-- ---- what a node reads of a disk

-- its own write in flight first
reads_laid : (d : DiskState) (b : ℕ) → read_gives d 1 b ≡ laid (flown_by d 1 b) (d.block_at b)
reads_laid d b = by (flight_to (d.in_flight 1) b)
  where
    by : (o : Option (List ℕ)) → unwrap_or o (d.block_at b) ≡ laid o (d.block_at b)
    by None = refl
    by (Some x) = refl

-- a whole block
reads_whole : (d : DiskState) → IsTrue d.tells → IsSound d → (b : ℕ) → b < d.count → length (read_gives d 1 b) ≡ d.size
reads_whole d tells is b low =
    let settles : settled d (d.in_flight 1) b ≡ read_gives d 1 b = cond-true d.tells (written d.block_at (d.in_flight 1) b) (d.block_at b) tells in
    sym (ap length settles) ∙ (sound_barrier d tells is).sizes tells b low

module _ (v : Volume) (s : Begun (trees_on v)) (d : ℕ) (clients : List Client) (p : Point) (at : IsLoggedAt v s d clients p) where
  abbrev w : World (trees_on v)
  w = at.world

  abbrev st : NodeState
  st = state_of p

  is : IsLoggedNode v s w d st
  is = at.is

  its : IsItsView v st (seen_alone p.view)
  its = record { volume = at.volume; blocks = λ b. refl }

  stays_sound : Sound (trees_on v) w
  stays_sound = sound (trees_on v) s w is.alone

  -- the image with all its calls
  abbrev im : Image
  im = image_with v (λ b. (now (trees_on v) w b).content)

  -- ---- the tree

  all_told : w.book.published ≡ w.book.answered
  all_told = λ i j. each j i
    where
      each : (j : ℕ) → w.book.published j ≡ w.book.answered j
      each j = elim (cases_eq j s.node) [
        | inl same ↦ subst (λ n. w.book.published n ≡ w.book.answered n) (sym same) is.alone.told
        | inr other ↦ let low = stays_sound.whole.published_answered j in let none = is.alone.silent j other in omega (arith, low, none)
      ]

  stands : (t : Tree) × StandsAt v (contents (now (trees_on v) w)) (places (now (trees_on v) w)) t × RightTo (trees_on v) (kept_by (trees_on v) w.book.answered w.book.kept) w.book.start t
  stands =
      stays_sound.whole.right w.book.answered (λ i. (let low = stays_sound.whole.low_published i in let high = stays_sound.whole.published_answered i in omega (arith, low, high), omega arith))
      (λ i. let e : w.book.published i ≡ w.book.answered i = ap (λ f. f i) all_told in omega (arith, e))

  abbrev here : StandsAt v (contents (now (trees_on v) w)) (places (now (trees_on v) w)) stands.0
  here = stands.1

  all_alive : kept_by (trees_on v) w.book.answered w.book.kept ≡ saids (trees_on v) (living (trees_on v) w.items)
  all_alive =
      kept_by-all (trees_on v) w.book.answered w.book.kept (subst (λ cut. Numbered (trees_on v) cut w.book.kept) all_told stays_sound.whole.numbered)
      ∙ ap (saids (trees_on v)) (sym stays_sound.told)

  tree_is : stands.0 ≡ tree_of (run.history_of clients p.items) s.tree
  tree_is =
      (agree (images_of v)).tree w.items w.book.start stands.0 (subst (λ z. RightTo (trees_on v) z w.book.start stands.0) all_alive stands.2)
      ∙ (λ i. tree_of (sym at.history i) (is.start i))

  -- ---- the view

  is_of : IsOf (seen_alone p.view) im here.owners v.layout stands.0
  is_of = record {
    size = at.volume.size;
    root = at.volume.root;
    groups = at.volume.groups;
    agrees = λ b bytes e.
        let cached = view_cached v s w d st is (seen_alone p.view) its b bytes e in
        let same = cache_agrees v s w d st is b cached.0 cached.1 in
        as_told v (contents (now (trees_on v) w)) b bytes (ap (λ (x : BlockCell). x.content) same ∙ cached.2) (at.volume.view.whole b bytes e ∙ sym at.volume.size);
    stands = here.stands;
  }

  -- ---- what is read

  module _ (b : ℕ) (lock : LockName) (unkept : table.get p.view.blocks b ≡ None) (covered : cover v.layout b (here.owners b) ≡ Some lock) (used : is_free (here.owners b) ≡ false) where
    lock_is : ((now (trees_on v) w b).place).lock ≡ Some lock
    lock_is = ap (λ (x : Place). x.lock) (here.told b) ∙ covered

    in_use : ((now (trees_on v) w b).place).free ≡ true → ⊥
    in_use free = true≢false (sym free ∙ ap (λ (x : Place). x.free) (here.told b) ∙ used)

    off : IsPlace v b → ⊥
    off place = none_some (sym (place_unlocked v s w d st is b place) ∙ lock_is)

    holds : s.held (((now (trees_on v) w b).place).lock) ≡ Un → ⊥
    holds un = not_un (sym (ap (λ f. f (((now (trees_on v) w b).place).lock)) is.held ∙ ap all_locks lock_is) ∙ un)
      where
        not_un : all_locks (Some lock) ≡ Un → ⊥
        not_un e = cc

    uncached : w.book.cache s.node b ≡ None
    uncached = no_bytes (w.book.cache s.node b) (sym (is.keeps b) ∙ unkept)

    content_is : (now (trees_on v) w b).content ≡ read_gives p.disk 1 b
    content_is = sym (reads_alone (trees_on v) s w b is.alone is.cached uncached holds in_use).0
        ∙ ap (laid (w.disk.flight s.node b)) (is.disk.blocks b off) ∙ ap (λ o. laid o (st.image.at b)) (is.flights b off) ∙ sym (reads_laid p.disk b)

    unread : im.at b ≡ read_gives p.disk 1 b
    unread = elim (cases_lt b v.count) [
      | inl low ↦
          let there : b < p.disk.count = subst (λ n. b < n) (sym is.disk.has.count) low in
          let whole : length (read_gives p.disk 1 b) ≡ v.size = reads_whole p.disk at.tells at.sound b there ∙ is.disk.has.size in
          inside v (contents (now (trees_on v) w)) b low ∙ ap (fitted v.size) content_is ∙ fitted_whole v.size (read_gives p.disk 1 b) whole
      | inr high ↦ cond-false (nat_lt b v.count) (fitted v.size ((now (trees_on v) w b).content)) ((now (trees_on v) w b).content) (le-ltb b v.count high) ∙ content_is
    ]

  works : WorksAt clients p v.layout s.tree
  works = record {
    image = im;
    owners = here.owners;
    works = subst (WorksOn p.disk p.view im here.owners v.layout) tree_is (record { tells = at.tells; count = sym is.disk.has.count; view = is_of; unread = unread });
  }

pub nodes_work_on_an_image : NodesWorkOnAnImage
nodes_work_on_an_image v s d clients p at = works v s d clients p at
