-- Live blocks that were on their way are home, row by row.
use Rattle.std.proofs.Common.{◌≡◌, ℕ, zero, suc, ◌+◌, ◌<◌, ◌≤◌, Bool, true, false, List, [], ◌∷◌, length, Option, None, Some, ◌⊎◌, inl, inr, refl, sym, ap, subst, ◌∙◌, true≢false, is_some, slice_get, get_or, set, arith}
use Rattle.std.proofs.lemmas.Bool.{cases_eq}
use Rattle.std.proofs.lemmas.Cmp.{nat_cmp_total}
use Rattle.std.proofs.lemmas.List.{length-set}
use Rattle.std.proofs.lemmas.Option.{get_or_from_slice_get, slice_get_within}
use Rattle.std.specs.Ordering.{nat_cmp}
use Rattle.std.specs.FinMap as table
use Rattle.fixed_tables.proofs.Rows.{put_at, rising}
use Rattle.log_tables.specs.Kept.{Kept, place_of_way, rested}
use Rattle.log_tables.specs.declared.reads.Whereabouts.{Whereabouts}
use Rattle.log_tables.specs.declared.reads.Whereabouts.TheVariants as at
use Rattle.log_tables.specs.Versions.Way.{Home, Away, Flying}
use Rattle.log_tables.proofs.Counting.{apart, at_key, insert_removed, put_back}
use Rattle.log_tables.proofs.Reading.{row_gets}
use Rattle.log_tables.proofs.Steps.{same_some}
use Rattle.log_values.specs.Log.{Entry, LogValue, Way}
use Rattle.log_values.specs.Flushing.{settled, settled_way}
use Rattle.log_values.specs.Homing.{Settles}
use Rattle.log_values.proofs.Homing.{settled_sound}
use Rattle.log_values.proofs.Landing.{no_some}
use Rattle.log_memory.specs.Inside.{IsLog, log_in}
use Rattle.log_memory.specs.Rows.{is_flying}
use Rattle.log_memory.specs.declared.log.Log.TheInside.{Inside}
use Rattle.log_memory.proofs.NewLogs.{Gives}
use Rattle.log_memory.proofs.Revoking.{row_of}
use Rattle.log_memory.proofs.RowsRead.{entry_at}

abbrev pub tells_flying : Whereabouts → Bool
tells_flying at.Home = false
tells_flying at.Away = false
tells_flying at.Flying = true

pub flying_is : (w : Way) → tells_flying (place_of_way w) ≡ is_flying w
flying_is Home = refl
flying_is (Away bytes) = refl
flying_is (Flying bytes) = refl

flying_with : (w : Way) → is_flying w ≡ true → (bytes : List ℕ) × (w ≡ Flying bytes)
flying_with Home is = absurd (true≢false (sym is))
flying_with (Away bytes) is = absurd (true≢false (sym is))
flying_with (Flying bytes) is = (bytes, refl)

pub resting : (w : Way) → is_flying w ≡ false → settled_way w ≡ w
resting Home is = refl
resting (Away bytes) is = refl
resting (Flying bytes) is = absurd (true≢false is)

settled_home : (w : Way) → is_flying w ≡ true → settled_way w ≡ Home
settled_home Home is = refl
settled_home (Away bytes) is = absurd (true≢false (sym is))
settled_home (Flying bytes) is = refl

pub same_insert : {V : Type 0} (m : table.FinMap nat_cmp V) (k : ℕ) (v : V) → table.get m k ≡ Some v → m ≡ table.insert m k v
same_insert m k v here = put_back m k v here ∙ insert_removed m k v

-- ---- one row

module _ (l : Inside) (h : IsLog l) (e : ℕ × Entry) (here : table.get l.tables.live e.0 ≡ Some e.1) (flies : is_flying e.1.way ≡ true) where
  abbrev pub at_home : table.FinMap nat_cmp Entry
  at_home = table.insert l.tables.live e.0 (record e.1 { way = Home })

  pub settles_it : (tables : Kept) → tables ≡ record l.tables { live = rested l.tables.live e.0 (table.get l.tables.live e.0) }
      → Gives (record l { tables = tables }) (record (log_in l) { live = table.insert l.tables.live e.0 (record e.1 { way = settled_way e.1.way }) })
  settles_it tables is =
      subst (λ (w : Way). Gives (record l { tables = tables }) (record (log_in l) { live = table.insert l.tables.live e.0 (record e.1 { way = w }) })) (sym (settled_home e.1.way flies))
      (subst (λ (k : Kept). Gives (record l { tables = k }) (record (log_in l) { live = at_home }))
      (sym (is ∙ ap (λ (o : Option Entry). let k : Kept = record l.tables { live = rested l.tables.live e.0 o } in k) here))
      (sound, refl))
    where
      sound : IsLog (record l { tables = record l.tables { live = at_home } })
      sound = record {
        sound = let with_bytes = flying_with e.1.way flies in settled_sound (log_in l) e.0 with_bytes.0 e.1 h.sound here with_bytes.1;
        idle = h.idle;
        few_changes = h.few_changes;
        size = h.size;
        frames = h.frames;
        places = h.places;
        gone_room = h.gone_room;
        revoked_room = h.revoked_room;
        revokes_room = h.revokes_room;
        content_room = h.content_room;
        metadata_room = h.metadata_room;
        revokes = h.revokes;
        kinds = record { content_inside = h.kinds.content_inside; metadata_inside = h.kinds.metadata_inside; content_are = h.kinds.content_are; metadata_are = h.kinds.metadata_are };
      }

-- ---- row by row

-- the first so many rows were gone over
pub record IsSettledUpTo (log : LogValue) (live : table.FinMap nat_cmp Entry) (count : ℕ) : Type 0 where
  pub rest : (i : ℕ) → count ≤ i → slice_get (table.entries live) i ≡ slice_get (table.entries log.live) i
  pub many : table.len live ≡ table.len log.live
  pub done : (i : ℕ) (e : ℕ × Entry) → i < count → slice_get (table.entries log.live) i ≡ Some e → table.get live e.0 ≡ Some (record e.1 { way = settled_way e.1.way })
  pub none : (b : ℕ) → table.get log.live b ≡ None → table.get live b ≡ None

pub none_settled : (log : LogValue) → IsSettledUpTo log log.live 0
none_settled log = record { rest = λ i few. refl; many = refl; done = λ i e few at. absurd (omega arith); none = λ b is. is }

other_row : {A : Type 0} (es : List A) (i j : ℕ) (x : A) → (j ≡ i → ⊥) → slice_get (set es i x) j ≡ slice_get es j
other_row [] i j x ne = refl
other_row (e ∷ es) zero zero x ne = absurd (ne refl)
other_row (e ∷ es) zero (suc j) x ne = refl
other_row (e ∷ es) (suc i) zero x ne = refl
other_row (e ∷ es) (suc i) (suc j) x ne = other_row es i j x (λ is. ne (ap suc is))

module _ (log : LogValue) (live : table.FinMap nat_cmp Entry) (place : ℕ) (h : IsSettledUpTo log live place) (e : ℕ × Entry) (row : slice_get (table.entries log.live) place ≡ Some e) where
  abbrev value : Entry
  value = record e.1 { way = settled_way e.1.way }

  abbrev after : table.FinMap nat_cmp Entry
  after = table.insert live e.0 value

  here : slice_get (table.entries live) place ≡ Some e
  here = h.rest place (omega arith) ∙ row

  entries_are : table.entries after ≡ set (table.entries live) place ((get_or (table.entries live) place e).0, value)
  entries_are =
      table.entries-insert nat_cmp_total live e.0 value
      ∙ put_at (table.entries live) e.0 place value e (table.entries_sorted live) (slice_get_within (table.entries live) place e here)
      (ap (λ (x : ℕ × Entry). x.0) (get_or_from_slice_get (table.entries live) place e e here))

  its_value : table.get log.live e.0 ≡ Some e.1
  its_value = row_gets log.live place e row

  pub one_settled : IsSettledUpTo log after (place + 1)
  one_settled = record {
    rest = λ i few. ap (λ (es : List (ℕ × Entry)). slice_get es i) entries_are ∙ other_row (table.entries live) place i ((get_or (table.entries live) place e).0, value) (λ is. absurd (omega arith)) ∙ h.rest i (omega arith);
    many = table.len-entries after ∙ ap length entries_are ∙ length-set (table.entries live) place ((get_or (table.entries live) place e).0, value) ∙ sym (table.len-entries live) ∙ h.many;
    done = λ i d few there. by_place i d there (cases_eq i place) few;
    none = λ b lacking. apart live e.0 value b (λ is. no_some e.1 (sym its_value ∙ ap (table.get log.live) (sym is) ∙ lacking)) ∙ h.none b lacking;
  }
    where
      by_place : (i : ℕ) (d : ℕ × Entry) → slice_get (table.entries log.live) i ≡ Some d → (i ≡ place) ⊎ (i ≡ place → ⊥) → i < place + 1 → table.get after d.0 ≡ Some (record d.1 { way = settled_way d.1.way })
      by_place i d there (inl is) few =
          let same : e ≡ d = same_some (slice_get (table.entries log.live) i) e d (ap (slice_get (table.entries log.live)) is ∙ row) there in
          subst (λ (x : ℕ × Entry). table.get after x.0 ≡ Some (record x.1 { way = settled_way x.1.way })) same (at_key live e.0 value)
      by_place i d there (inr ne) few =
          let rise = rising (table.entries log.live) (table.entries_sorted log.live) i place e (omega arith) (slice_get_within (table.entries log.live) place e row) in
          let a : (get_or (table.entries log.live) i e).0 ≡ d.0 = ap (λ (x : ℕ × Entry). x.0) (get_or_from_slice_get (table.entries log.live) i d e there) in
          let b : (get_or (table.entries log.live) place e).0 ≡ e.0 = ap (λ (x : ℕ × Entry). x.0) (get_or_from_slice_get (table.entries log.live) place e e row) in
          apart live e.0 value d.0 (λ is. absurd (omega arith)) ∙ h.done i d (omega arith) there

pub row_settled : (log mid new : LogValue) (place : ℕ) → mid ≡ (let n : LogValue = record log { live = mid.live } in n) → IsSettledUpTo log mid.live place → place < table.len log.live
    → ((e : ℕ × Entry) → slice_get (table.entries mid.live) place ≡ Some e → new ≡ (let n : LogValue = record mid { live = table.insert mid.live e.0 (record e.1 { way = settled_way e.1.way }) } in n))
    → (new ≡ (let n : LogValue = record log { live = new.live } in n)) × IsSettledUpTo log new.live (place + 1)
row_settled log mid new place same h inside step =
    (is ∙ ap (λ (m : table.FinMap nat_cmp Entry). let n : LogValue = record log { live = m } in n) (sym live_is), subst (λ (m : table.FinMap nat_cmp Entry). IsSettledUpTo log m (place + 1)) (sym live_is) (one_settled log mid.live place h row.0 row.1))
  where
    row : (e : ℕ × Entry) × (slice_get (table.entries log.live) place ≡ Some e)
    row = entry_at (table.entries log.live) place (subst (λ n. place < n) (table.len-entries log.live) inside)

    stepped : LogValue → LogValue
    stepped x = record x { live = table.insert x.live row.0.0 (record row.0.1 { way = settled_way row.0.1.way }) }

    is : new ≡ stepped (record log { live = mid.live })
    is = step row.0 (h.rest place (omega arith) ∙ row.1) ∙ ap stepped same

    live_is : new.live ≡ table.insert mid.live row.0.0 (record row.0.1 { way = settled_way row.0.1.way })
    live_is = ap (λ (x : LogValue). x.live) is

pub all_settled : (log new : LogValue) (count : ℕ) → table.len log.live ≤ count → new ≡ (let n : LogValue = record log { live = new.live } in n) → IsSettledUpTo log new.live count → Settles log new
all_settled log new count all same h = record { same = same; settles = λ b. by b (table.get log.live b) refl }
  where
    by : (b : ℕ) (o : Option Entry) → table.get log.live b ≡ o → table.get new.live b ≡ settled (table.get log.live b)
    by b None is = h.none b is ∙ ap settled (sym is)
    by b (Some x) is =
        let row = row_of (table.entries log.live) b (ap is_some (sym (table.get-entries log.live b) ∙ is)) in
        let within = table.len-entries log.live in
        let value : x ≡ row.1.1 = same_some (table.get log.live b) x row.1.1 is (ap (table.get log.live) (sym row.2.2) ∙ row_gets log.live row.0 row.1 row.2.1) in
        ap (table.get new.live) (sym row.2.2) ∙ h.done row.0 row.1 (omega (arith, row.2.0)) row.2.1 ∙ ap settled (ap Some (sym value) ∙ sym is)
