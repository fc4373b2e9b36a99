-- The places of a journal of an image that stands, and what the calls over a view that shows it can't tell.
use Rattle.std.proofs.Common.{◌≡◌, ◌<◌, ◌≤◌, ◌*◌, ◌/◌, ℕ, suc, true, None, Some, sym, ap, ap₂, subst, ◌∙◌, arith}
use Rattle.std.proofs.lemmas.Bool.{cond-true, cond-false, lt-ltb, ne_eqb}
use Rattle.std.specs.Prelude.{IsSome, if◌then◌else◌, nat_lt}
use Rattle.gfs2_layout.specs.Holding.{Holding, bytes_at}
use Rattle.gfs2_layout.specs.Inode.{IsInode, content_block, content_count, dinode_in, fan, height_in, span}
use Rattle.gfs2_layout.specs.Structures.{dinode_length}
use Rattle.gfs2_layout.specs.declared.dinode.Dinode.{Dinode}
use Rattle.glock_names.specs.Steps.{IsDamage, TellsOf}
use Rattle.glock_names.specs.Views.{Seen}
use Rattle.glock_names.specs.declared.steps.CallFault.{CallFault}
use Rattle.glock_names.specs.declared.steps.CallFault.TheVariants.{Damaged, NoMemory}
use Rattle.glock_names.specs.declared.steps.Missing.{Missing}
use Rattle.dinode_tree.specs.Broken.{IsBroken}
use Rattle.dinode_tree.specs.Reading.{IsNeeded, IsOnWay, block_at, led_to, reach, target, the_dinode}
use Rattle.dinode_tree.specs.Shown.{IsShown}
use Rattle.image_changes.proofs.FileContent.{content_block_after}
use Rattle.image_model.specs.Claims.{HasJournal, every}
use Rattle.image_model.specs.Image.{Image}
use Rattle.image_model.specs.Journals.{IsJournal}
use Rattle.image_model.specs.Owners.{Owners, holding, is_dinode}
use Rattle.image_model.specs.Stands.{Layout}
use Rattle.image_model.specs.SystemFiles.{IsSystemFile, is_journal}
use Rattle.image_model.proofs.Facts.{journal_is}
use Rattle.image_model.proofs.Held.{none_some, some_same}
use Rattle.image_model.proofs.Lengths.{place_high, place_is, place_low, places_same, size_large}
use Rattle.log_layout.specs.Journal.{ring_of}
use Rattle.image_journals.specs.Shown.{ShowsFrame}
use Rattle.image_journals.proofs.Held as held

-- ---- what can't be told of an inode that is sound, and whole in a view

abbrev pub BreaksNothing : Type 0
BreaksNothing = (h : Holding) (rule b : ℕ) → IsInode h → IsBroken h rule b → ⊥

abbrev pub AreAllSeen : Seen → Holding → Type 0
AreAllSeen v h = (b : ℕ) → IsSome (h.cell b) → v.block_at b ≡ Some (bytes_at h b)

pub undamaged : (h : Holding) (f : CallFault) → BreaksNothing → IsInode h → IsDamage (IsBroken h) f → ⊥
undamaged h (Damaged block rule) law sound told = law h rule block sound told
undamaged h NoMemory law sound told = told

pub untold : (h : Holding) (block rule : ℕ) → BreaksNothing → IsInode h → TellsOf (IsBroken h) (Damaged block rule) → ⊥
untold h block rule law sound told = law h rule block sound told

pub never_none : (v : Seen) (h : Holding) (b : ℕ) → AreAllSeen v h → IsSome (h.cell b) → v.block_at b ≡ None → ⊥
never_none v h b all some none = none_some (sym none ∙ all b some)

pub unneeded : (v : Seen) (a : ℕ) (h : Holding) (wanted : ℕ → Type 0) (least : ℕ) (m : Missing) → IsShown v a h → AreAllSeen v h → IsNeeded v h wanted least m → ⊥
unneeded v a h wanted least m shown all needed = by needed.way
  where
    by : IsOnWay h wanted least m → ⊥
    by (the_dinode block from plain) = never_none v h h.own all shown.dinode (ap v.block_at (sym block) ∙ needed.absent)
    by (led_to i k level first is high leads begins ends plain) = never_none v h m.block all (shown.led_to m.from k level first m.block leads) needed.absent

module _ (v : Seen) (r : Image) (o : Owners) (l : Layout) (s : ShowsFrame v r o l) (j d : ℕ) (has : HasJournal r j d) where
  abbrev now : Holding
  now = holding (held.seen_image v r) o d

  pub file : IsSystemFile r d
  file = is_journal j has

  journal : (is_dinode (o d) ≡ true) × IsJournal (holding r o d)
  journal = journal_is r o l s.laid j d has

  wide : 512 ≤ r.size
  wide = size_large r.size s.laid.image.block_size

  sound : IsInode (holding r o d)
  sound = held.sound v r o l s d file

  pub as_held : (ring_of (holding r o d)).places ≡ (ring_of (every r d)).places
  as_held = places_same r o wide d journal.0 sound journal.1

  -- how many places there are, by a dinode that was read
  pub places_read : (size : ℕ) (read : Dinode) → size ≡ r.size → read ≡ dinode_in now → read.size / size ≡ (ring_of (every r d)).places
  places_read size read same is = ap (λ n. read.size / n) same ∙ ap (λ (x : Dinode). x.size / r.size) (is ∙ held.dinode_now v r o l s d file) ∙ as_held

  module _ (p : ℕ) (low : p < (ring_of (every r d)).places) where
    low_held : p < (ring_of (holding r o d)).places
    low_held = subst (λ n. p < n) (sym as_held) low

    high : (level : ℕ) × (height_in (holding r o d) ≡ suc level)
    high = place_high r o wide d journal.0 sound journal.1 p low_held

    within : p < content_count (holding r o d)
    within = place_low r o wide d journal.0 sound journal.1 p low_held

    reached : p < reach r.size (height_in (holding r o d))
    reached =
        let under : content_count (holding r o d) ≤ fan r.size dinode_length * span r.size high.0 = sound.fits.under high.0 high.1 in
        subst (λ n. p < reach r.size n) (sym high.1) (let inside = within in omega (arith, inside, under))

    -- the block at a place
    pub block_there : block_at (holding r o d) p ≡ Some (content_block (every r d) p)
    block_there =
        cond-true _ (target (content_block (holding r o d) p)) None (lt-ltb p (reach r.size (height_in (holding r o d))) reached)
        ∙ cond-false _ None (Some (content_block (holding r o d) p)) (ne_eqb (content_block (holding r o d) p) 0 (journal.1.filled p low_held))
        ∙ ap Some (place_is r o wide d journal.0 sound journal.1 p low_held).0

    -- the bytes that the view has at the places don't lead elsewhere
    block_now : block_at now p ≡ block_at (holding r o d) p
    block_now =
        ap₂ (λ (n b : ℕ). if nat_lt p (reach r.size n) then target b else None) (ap (λ (x : Dinode). x.height) (held.dinode_now v r o l s d file))
        (content_block_after (holding r o d) now journal.1.file (held.own v r o l s d file) (held.same_but_content v r o l s d file) sound high.0 high.1 p
        (let inside = within in omega (arith, inside, sound.fits.under high.0 high.1)))

    pub is_block : (b : ℕ) → Some b ≡ block_at now p → b ≡ content_block (every r d) p
    is_block b found = some_same (found ∙ block_now ∙ block_there)

    pub not_hole : None ≡ block_at now p → ⊥
    not_hole found = none_some (found ∙ block_now ∙ block_there)
