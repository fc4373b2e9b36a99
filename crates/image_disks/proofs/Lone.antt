-- Of one node alone: what each outcome stands for.
use Rattle.std.proofs.Common.{◌≡◌, ◌≤◌, ℕ, suc, inl, inr, false, List, [], ◌∷◌, ◌++◌, refl, sym, ap, subst, ◌∙◌, arith}
use Rattle.file_tree.specs.Tree.{Tree}
use Rattle.cluster_history.specs.History.{tree_of}
use Rattle.cluster_history.specs.History as history
use Rattle.cluster_laws.specs.Book.{W, at}
use Rattle.cluster_laws.specs.Contents.{places}
use Rattle.cluster_laws.specs.History.{Gone, Item, Legal, living, saids}
use Rattle.cluster_laws.specs.Files.{RightTo}
use Rattle.cluster_laws.specs.Log.{Calm}
use Rattle.cluster_laws.specs.Rings.{Rings}
use Rattle.cluster_laws.specs.World.{World}
use Rattle.cluster_laws.proofs.Bridging.{free_cells}
use Rattle.image_changes.specs.Changes.{Place}
use Rattle.image_model.specs.Image.{Image}
use Rattle.image_model.specs.Replays.{StandsReplayed}
use Rattle.image_model.specs.Stands.{IsJournalAt}
use Rattle.image_model.proofs.Held.{none_some}
use Rattle.image_model.proofs.Replaying.{journals_of_standing}
use Rattle.journal_outcomes.specs.Images.{ring_at}
use Rattle.log_layout.specs.Live.{IsReadable}
use Rattle.log_layout.proofs.SamePlaces.{nothing_live}
use Rattle.journal_outcomes.specs.Rings.{InFlight}
use Rattle.tree_histories.specs.Trees.{Trees, rules_of}
use Rattle.tree_histories.proofs.Joining.{agree}
use Rattle.image_machine.specs.Volumes.{StandsAt, Volume, images_of}
use Rattle.image_machine.proofs.Fitting.{contents_are_images}
use Rattle.image_machine.proofs.Unminded.{free_do_not, rings_do_not}
use Rattle.lone_machine.specs.Alone.{Begun, IsAlone, IsReplayAlone, head_of}
use Rattle.lone_machine.specs.Laws.{AreOwnRings}
use Rattle.lone_machine.proofs.Going.{sound}
use Rattle.lone_machine.proofs.Remaining.{remains_alone}
use Rattle.image_disks.specs.Disks.{IsDiskOf, IsOutcomeOf}
use Rattle.image_disks.specs.Lone.{ImagesBeginAtRest, LoneOutcomesStand, remaining}

module _ (v : Volume) (s : Begun (Trees (images_of v))) (w : World (Trees (images_of v))) (rings : Rings (Trees (images_of v)) w.disk) (im left : Image) (flying : InFlight) (j k : ℕ)
    (a : IsAlone (Trees (images_of v)) s w) (node : s.node ≡ suc j) (own : AreOwnRings (Trees (images_of v)) w rings) (is : IsDiskOf v w.disk rings im flying)
    (of : IsOutcomeOf v w.disk rings im flying left) (low : (head_of (Trees (images_of v)) s w (of.choice j)).cut ≤ k) (high : k ≤ w.book.answered s.node)
    (calm : Calm (Trees (images_of v)) w.book s.node ((head_of (Trees (images_of v)) s w (of.choice j)).cut) k) where
  -- what is live by the chosen head of its journal
  mine : (b : ℕ) → rings.live j (of.choice j) b ≡ (head_of (Trees (images_of v)) s w (of.choice j)).live b
  mine b = own.live j b (of.choice j) ∙ ap (λ n. (w.disk.heads n (of.choice j)).live b) (sym node)

  replay : IsReplayAlone (Trees (images_of v)) s w (of.choice j) of.became of.replayed
  replay b = elim (of.replay b) [
    | inl live ↦
        let owner = (sound (Trees (images_of v)) s w a).mirror.lives (suc live.0) (of.choice live.0) b live.1 (sym (own.live live.0 b (of.choice live.0)) ∙ live.2) in
        let same : live.0 ≡ j = (let e = a.owners b (suc live.0) owner in omega (arith, e, node)) in
        inl (live.1, sym (mine b) ∙ ap (λ n. rings.live n (of.choice n) b) (sym same) ∙ live.2, live.3)
    | inr none ↦ inr (sym (mine b) ∙ none.0 j, none.1)
  ]

  abbrev items : List (Item (Trees (images_of v)))
  items = w.items ++ (Gone s.node k k ∷ [])

  abbrev cells_places : ℕ → Place
  cells_places = places (W (Trees (images_of v)) w.book (at w.book.answered s.node k))

  stand : Legal (Trees (images_of v)) items w.book.start
      × ((t : Tree) × StandsAt v of.replayed cells_places t × RightTo (Trees (images_of v)) (saids (Trees (images_of v)) (living (Trees (images_of v)) items)) w.book.start t)
  stand = remains_alone (Trees (images_of v)) s w (of.choice j) k of.became of.replayed a (free_cells (rules_of (images_of v)) (free_do_not v)) of.outcome replay low high calm

  legal : history.Legal (remaining v s w k) w.book.start
  legal = (agree (images_of v)).legal items w.book.start stand.0

  lone_stands : StandsReplayed left (tree_of (remaining v s w k) w.book.start)
  lone_stands =
      let t = stand.1.0 in
      let same : t ≡ tree_of (remaining v s w k) w.book.start = (agree (images_of v)).tree items w.book.start t stand.1.2 in
      let by = contents_are_images v of.full cells_places t of.has (rings_do_not v of.replayed of.full.at cells_places t stand.1.1 of.readable of.near) in
      subst (StandsReplayed left) same (record {
        layout = v.layout;
        replayed = of.full;
        is = of.is;
        stands = record { owners = by.0; layout = v.layout; laid = by.1.laid; reads = by.1.reads };
      })

pub lone_outcomes_stand : LoneOutcomesStand
lone_outcomes_stand v s w rings im left flying j k a node own is of low high calm =
    (legal v s w rings im left flying j k a node own is of low high calm, lone_stands v s w rings im left flying j k a node own is of low high calm)

-- ---- the start

pub images_begin_at_rest : ImagesBeginAtRest
images_begin_at_rest im o l t stands clean rings own = record {
  has = record { size = refl; count = refl; whole = stands.laid.image.whole };
  journals = journals_of_standing im o l stands.laid;
  many = λ j k at. refl;
  there = λ j k p at low. refl;
  readable = readable;
  may = record {
    journals = λ j k at. (let r = readable j k at in record {
      head = r.head;
      headed = r.headed;
      writes = inl (record { free = λ p bytes low e. absurd (none_some e); no_header = λ p bytes low e. absurd (none_some e) });
    });
    readable = λ j k at flies. absurd (none_some flies.1.flies);
    others = λ b bytes e. absurd (none_some e);
    whole = λ b bytes e. absurd (none_some e);
  };
  blocks = λ b off. refl;
  flights = λ b bytes off e. absurd (none_some e);
  old = λ j k b at. own.live j b false ∙ sym ((nothing_live (ring_at im k) (clean j k at)).none b);
  new = λ j k b at flies. absurd (none_some flies.1.flies);
  none = λ j b c not. own.live j b c;
  inside = λ j b c bytes e. absurd (none_some (sym (own.live j b c) ∙ e));
  whole = λ j b c bytes e. absurd (none_some (sym (own.live j b c) ∙ e));
}
  where
    readable : (j k : ℕ) → IsJournalAt l j k → IsReadable (ring_at im k)
    readable j k at = (nothing_live (ring_at im k) (clean j k at)).readable
