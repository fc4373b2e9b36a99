-- A node with an empty log begins on an image at rest.
use Rattle.std.proofs.Common.{◌≡◌, ℕ, ◌<◌, true, [], Some, refl, sym, ap, subst, ◌∙◌, inl, inr, true≢false, is_some, arith}
use Rattle.std.specs.FinMap as table
use Rattle.std.specs.Ordering.{nat_cmp}
use Rattle.file_tree.specs.Tree.{Tree}
use Rattle.cluster_laws.specs.Rings.{Rings}
use Rattle.cluster_laws.specs.World.{World}
use Rattle.image_changes.specs.Instances.{StandsBy}
use Rattle.image_disks.proofs.Lone.{images_begin_at_rest}
use Rattle.image_machine.specs.Volumes.{Volume, volume_of}
use Rattle.image_model.specs.Image.{Image}
use Rattle.image_model.specs.Owners.{Owners}
use Rattle.image_model.specs.Stands.{IsJournalAt, Layout}
use Rattle.image_model.proofs.Held.{none_some, some_same}
use Rattle.journal_outcomes.specs.Images.{ring_at}
use Rattle.log_layout.specs.Journal.{IsClean, head_in}
use Rattle.log_layout.specs.declared.log_header.LogHeader.{LogHeader}
use Rattle.log_layout.proofs.BestHeaders.{head_there}
use Rattle.log_rings.specs.Laws.{CleanRingsBegin}
use Rattle.log_values.specs.Log.{Entry, Journal}
use Rattle.log_values.specs.Laws.{IsJournal}
use Rattle.log_values.proofs.Keeping.{empty_sound}
use Rattle.lone_images.specs.Lone.{begun_on}
use Rattle.lone_images.proofs.Calling.{images_begin}
use Rattle.lone_machine.specs.Alone.{Begun, IsAlone, begun}
use Rattle.lone_machine.specs.Laws.{AreOwnRings}
use Rattle.lone_machine.proofs.Going.{begins_alone}
use Rattle.lone_machine.proofs.Remaining.{rings_alone}
use Rattle.lone_logs.specs.Laws.{Begins, at_rest}
use Rattle.lone_logs.specs.States.{HasUnlogged, ArePlacesApart, IsJournalOf, IsLoggedNode, flies_home, trees_on}
use Rattle.lone_logs.proofs.Beginning.{nothing_logged}
use Rattle.lone_logs.proofs.Stages.{no_flush}

module _ (begin : CleanRingsBegin) (im : Image) (o : Owners) (l : Layout) (t : Tree) (d : ℕ) (journal : Journal) (head : LogHeader) (stands : StandsBy im o l t)
    (clean : (j k : ℕ) → IsJournalAt l j k → IsClean (ring_at im k)) (apart : ArePlacesApart (volume_of im l)) (its : IsJournal journal) (of : IsJournalOf (volume_of im l) d journal)
    (headed : head_in (ring_at im d) ≡ Some head) where
  abbrev v : Volume
  v = volume_of im l

  abbrev s : Begun (trees_on v)
  s = begun_on im o l t

  abbrev w : World (trees_on v)
  w = begun (trees_on v) s

  alone : IsAlone (trees_on v) s w
  alone = begins_alone (trees_on v) s (images_begin im o l t stands)

  rings : (rings : Rings (trees_on v) w.disk) × AreOwnRings (trees_on v) w rings
  rings = rings_alone (trees_on v) s w 0 alone refl

  is_clean : head.clean ≡ true
  is_clean = (let c = clean 0 d of.is in ap (λ (h : LogHeader). h.clean) (some_same (sym headed ∙ c.1)) ∙ c.2)

  inside : head.blkno < journal.length
  inside = subst (λ n. head.blkno < n) (sym of.places) (head_there (ring_at im d) head headed).0

  no_entry : (b : ℕ) (e : Entry) → table.get (table.empty {X = Entry} {R = nat_cmp}) b ≡ Some e → ⊥
  no_entry b e at = none_some (sym (table.get-empty nat_cmp b) ∙ at)

  none_unlogged : (b : ℕ) → HasUnlogged (at_rest im journal head).log b → ⊥
  none_unlogged b (inl e) = true≢false (sym e ∙ ap is_some (table.get-empty nat_cmp b))
  none_unlogged b (inr e) = true≢false (sym e)

  pub it_begins : IsLoggedNode v s w d (at_rest im journal head)
  it_begins = record {
    alone = alone;
    node = refl;
    held = refl;
    start = refl;
    rings = rings.0;
    own = rings.1;
    disk = images_begin_at_rest im o l t stands clean rings.0 rings.1;
    flights = λ b off. refl;
    apart = apart;
    journal = of;
    sound = empty_sound journal head.blkno head.sequence its inside;
    laid = [];
    ring = begin (ring_at im d) journal head its (sym of.size) (sym of.places) headed is_clean;
    home = λ b e at way. absurd (no_entry b e at);
    others = λ j k at other. clean j k at;
    flies = λ p low. refl;
    homeward = λ b off. sym (ap flies_home (table.get-empty nat_cmp b));
    elsewhere = λ j k p at other low. refl;
    only_headed = λ h. absurd (none_some h.1.flies);
    read = λ f tail some stage. absurd (no_flush f some);
    heads = record { headed = λ h. absurd (no_flush h.0 h.2); one = λ not. refl };
    numbers = record { answered = refl; low = refl; begun = (omega arith, omega arith); changed = omega arith; calm = λ n above below. absurd (omega (arith, below)) };
    versions = nothing_logged v w.book s.node 0;
    may = λ b unlogged. absurd (none_unlogged b unlogged);
    cached = λ b own used. absurd (none_some own);
    keeps = λ b. table.get-empty nat_cmp b;
    away = λ b e at off_home used. absurd (no_entry b e at);
  }

pub node_begins : CleanRingsBegin → Begins
node_begins begin im o l t d journal head stands clean apart its of headed = it_begins begin im o l t d journal head stands clean apart its of headed
