-- One node alone: its log, its headers, and its blocks on their way home.
use Rattle.std.proofs.Common.{ℕ, ◌≡◌, ◌≤◌, ◌<◌, ◌⊎◌, inl, inr, suc, Bool, true, false, Option, None, Some, refl, sym, ap, ◌∙◌, subst, arith}
use Rattle.std.proofs.lemmas.Bool.{cases_eq}
use Rattle.cluster_laws.specs.Files.{Files, CellOf, Part}
use Rattle.cluster_laws.specs.Book.{at, Book}
use Rattle.cluster_laws.specs.Log.{IsHeader, Last, Untouched}
use Rattle.cluster_laws.specs.Mirror.{Head, Heads}
use Rattle.cluster_laws.specs.World.{Begins, Ends, Lands, Step, World, Writes}
use Rattle.cluster_laws.proofs.Cells.{none-some, at-same, at-other}
use Rattle.cluster_laws.proofs.Logging.{header_heads}
use Rattle.cluster_laws.proofs.Minding.{step_keeps_notes}
use Rattle.lone_machine.specs.Alone.{Begun, IsAlone, begins_header, begun, ends_header, settles, writes_home}
use Rattle.lone_machine.specs.Laws.{HeaderBeginsAlone, HeaderEndsAlone, NoVersions, SettlesAlone, VersionsGrow, WritesHomeAlone}
use Rattle.lone_machine.specs.Versions.{AreVersions, IsLiveAfter, IsVersion}
use Rattle.lone_machine.proofs.Going.{run_on, sound}

true_false : true ≡ false → ⊥
true_false e = cc

-- ---- versions

module _ (F : Files) (B B' : Book F) (i lo hi : ℕ) (change : Part F) (order : lo ≤ hi) (changes : B'.change i ≡ at (B.change i) (suc hi) change) (b : ℕ) where
  earlier : (n : ℕ) → n < hi → B'.change i (suc n) b ≡ B.change i (suc n) b
  earlier n low = ap (λ f. f (suc n) b) changes ∙ ap (λ f. f b) (at-other (B.change i) (suc hi) change (suc n) (λ e. absurd (omega (arith, e, low))))

  latest : B'.change i (suc hi) b ≡ change b
  latest = ap (λ f. f (suc hi) b) changes ∙ ap (λ f. f b) (at-same (B.change i) (suc hi) change)

  untouched : (from : ℕ) → change b ≡ None → Untouched F B i from hi b → Untouched F B' i from (suc hi) b
  untouched from none still n above below = elim (cases_eq n hi) [
    | inl e ↦ ap (λ m. B'.change i (suc m) b) e ∙ latest ∙ none
    | inr other ↦ (let low : n < hi = omega (arith, below, other) in earlier n low ∙ still n above low)
  ]

  still_last : change b ≡ None → (l : Last F B i lo hi b) → (l' : Last F B' i lo (suc hi) b) × (l'.cell ≡ l.cell)
  still_last none l = (
    record {
      call = l.call;
      cell = l.cell;
      above = l.above;
      below = omega (arith, l.below);
      changes = earlier (l.call) (l.below) ∙ l.changes;
      none_later = untouched (suc (l.call)) none (l.none_later);
    },
    refl,
  )

  new_last : (x : CellOf F) → change b ≡ Some x → (l : Last F B' i lo (suc hi) b) × (l.cell ≡ x)
  new_last x e = (
    record { call = hi; cell = x; above = order; below = omega arith; changes = latest ∙ e; none_later = λ n above below. absurd (omega (arith, above, below)) },
    refl,
  )

pub versions_grow : (F : Files) → VersionsGrow F
unfolding still_last new_last
versions_grow F B B' i lo hi change versions versions' gone gone' order changes are with b = by (are b) (with b)
  where
    by : IsVersion F B i lo hi b (versions b) (gone b)
        → ((change b ≡ None) × (versions' b ≡ versions b) × (gone' b ≡ gone b))
        ⊎ ((x : CellOf F) × (change b ≡ Some x) × ((F.IsFree (x.place) × (versions' b ≡ None)) ⊎ ((F.IsFree (x.place) → ⊥) × (versions' b ≡ Some (x.content)) × (gone' b ≡ false))))
        → IsVersion F B' i lo (suc hi) b (versions' b) (gone' b)
    by (inl old) (inl none) = inl (untouched F B B' i lo hi change order changes b lo (none.0) (old.0), none.1 ∙ old.1, none.2 ∙ old.2)
    by (inr old) (inl none) = inr (
      (still_last F B B' i lo hi change order changes b (none.0) (old.0)).0,
      elim (old.1) [
        | inl free ↦ inl (free.0, none.1 ∙ free.1)
        | inr used ↦ inr (used.0, none.1 ∙ used.1, none.2 ∙ used.2)
      ],
    )
    by old (inr some) = inr (
      (new_last F B B' i lo hi change order changes b (some.0) (some.1)).0,
      elim (some.2) [
        | inl free ↦ inl (free.0, free.1)
        | inr used ↦ inr (used.0, used.1, used.2)
      ],
    )

pub no_versions : (F : Files) → NoVersions F
no_versions F B i lo b = inl ((λ n above below. absurd (omega (arith, above, below))), refl, refl)

-- ---- headers

module _ (F : Files) (s : Begun F) (w : World F) (a : IsAlone F s w) (h : Head F) (versions : ℕ → Option F.Content) (gone : ℕ → Bool)
    (still : (b : ℕ) → w.disk.flight s.node b ≡ None) (low : w.book.low s.node ≤ h.cut) (high : h.cut ≤ w.book.answered s.node)
    (are : AreVersions F w.book s.node (w.book.low s.node) (h.cut) versions gone) (live : IsLiveAfter F w.disk s.node versions gone (h.live)) where
  each : (b : ℕ) → (Untouched F w.book s.node (w.book.low s.node) (h.cut) b × ((h.live b ≡ (w.disk.heads s.node false).live b)
      ⊎ ((h.live b ≡ None) × ((v : F.Content) → (w.disk.heads s.node false).live b ≡ Some v → w.disk.blocks b ≡ v))))
      ⊎ ((l : Last F w.book s.node (w.book.low s.node) (h.cut) b) × ((h.live b ≡ Some ((l.cell).content)) ⊎ F.IsFree ((l.cell).place)))
  each b = by (are b) (live b)
    where
      by : IsVersion F w.book s.node (w.book.low s.node) (h.cut) b (versions b) (gone b)
          → ((v : F.Content) × (versions b ≡ Some v) × (h.live b ≡ Some v))
          ⊎ ((versions b ≡ None) × ((h.live b ≡ (w.disk.heads s.node false).live b)
          ⊎ ((h.live b ≡ None) × (((v : F.Content) → (w.disk.heads s.node false).live b ≡ Some v → w.disk.blocks b ≡ v) ⊎ (gone b ≡ true)))))
          → (Untouched F w.book s.node (w.book.low s.node) (h.cut) b × ((h.live b ≡ (w.disk.heads s.node false).live b)
          ⊎ ((h.live b ≡ None) × ((v : F.Content) → (w.disk.heads s.node false).live b ≡ Some v → w.disk.blocks b ≡ v))))
          ⊎ ((l : Last F w.book s.node (w.book.low s.node) (h.cut) b) × ((h.live b ≡ Some ((l.cell).content)) ⊎ F.IsFree ((l.cell).place)))
      by (inl old) (inl new) = absurd (none-some (old.1) (new.1))
      by (inl old) (inr (none, inl same)) = inl (old.0, inl same)
      by (inl old) (inr (none, inr (dropped, inl home))) = inl (old.0, inr (dropped, home))
      by (inl old) (inr (none, inr (dropped, inr went))) = absurd (true_false (sym went ∙ old.2))
      by (inr (l, inl free)) other = inr (l, inr (free.0))
      by (inr (l, inr used)) (inl new) = inr (l, inl (new.2 ∙ sym (new.1) ∙ used.1))
      by (inr (l, inr used)) (inr (none, rest)) = absurd (none-some none (used.1))

  header : IsHeader F w.book w.disk s.node (h.cut) h
  header = record {
    cut = refl;
    range = (low, subst (λ n. h.cut ≤ n) (sym a.told) high);
    each = each;
    none_flying = λ r b v fly own. elim (cases_eq r s.node) [
      | inl same ↦ none-some (ap (λ k. w.disk.flight k b) same ∙ still b) fly
      | inr other ↦ none-some (a.writes r b other) fly
    ];
  }

  heads : Heads F w.book w.disk s.node h
  heads = header_heads F w.book w.disk s.node (h.cut) h ((sound F s w a).whole) ((sound F s w a).mirror) header

pub header_begins : (F : Files) → HeaderBeginsAlone F
header_begins F s w h versions gone a settled still low high are live = record {
  alone = record {
    begins = a.begins;
    run = run_on F (begun F s) w (begins_header F s w h) a.run step;
    held = a.held;
    told = a.told;
    owners = a.owners;
    silent = a.silent;
    writes = a.writes;
  };
  now = refl;
  cached = (step_keeps_notes F w (begins_header F s w h) step s.node (sound F s w a)).0 tt;
  items = refl;
}
  where
    step : Step F w (begins_header F s w h)
    step = Begins s.node h settled (heads F s w a h versions gone still low high are live)

pub header_ends : (F : Files) → HeaderEndsAlone F
header_ends F s w c a = record {
  alone = record {
    begins = a.begins;
    run = run_on F (begun F s) w (ends_header F s w c) a.run (Ends s.node c);
    held = a.held;
    told = a.told;
    owners = a.owners;
    silent = a.silent;
    writes = a.writes;
  };
  now = refl;
  cached = (step_keeps_notes F w (ends_header F s w c) (Ends s.node c) s.node (sound F s w a)).0 tt;
  items = refl;
}

-- ---- home

pub writes_alone : (F : Files) → WritesHomeAlone F
writes_alone F s w b v a live cached = record {
  alone = record {
    begins = a.begins;
    run = run_on F (begun F s) w (writes_home F s w b v) a.run (Writes s.node b v s.node live);
    held = a.held;
    told = a.told;
    owners = a.owners;
    silent = a.silent;
    writes = λ r k other. ap (λ f. f k) (at-other (w.disk.flight) s.node (at (w.disk.flight s.node) b (Some v)) r other) ∙ a.writes r k other;
  };
  now = refl;
  cached = (step_keeps_notes F w (writes_home F s w b v) (Writes s.node b v s.node live) s.node (sound F s w a)).0 (λ own used. cached used);
  items = refl;
}

pub settles_alone : (F : Files) → SettlesAlone F
settles_alone F s w x a may = record {
  alone = record {
    begins = a.begins;
    run = run_on F (begun F s) w (settles F s w x) a.run (Lands s.node x may);
    held = a.held;
    told = a.told;
    owners = a.owners;
    silent = a.silent;
    writes = λ r k other. ap (λ f. f k) (at-other (w.disk.flight) s.node (λ b. None) r other) ∙ a.writes r k other;
  };
  now = refl;
  cached = (step_keeps_notes F w (settles F s w x) (Lands s.node x may) s.node (sound F s w a)).0 tt;
  items = refl;
}
