-- A table, as its callers see it, once rows were read or changed.
use Rattle.std.proofs.Common.{◌≡◌, ℕ, ◌<◌, ◌≤◌, T, Bool, cond, not, List, [], ◌∷◌, Option, None, Some, refl, sym, ap, subst, ◌∙◌, length, get_or, set, vec_len, vec_capacity, Vec, Global, is_some, true, false, true≢false, ◌⊎◌, inl, inr, arith}
use Rattle.std.specs.List.{filter, insert, remove}
use Rattle.std.proofs.lemmas.Bool.{cases_eq}
use Rattle.std.specs.Ordering.{nat_cmp, eq_by_cmp, is_lt}
use Rattle.std.specs.FinMap as map
use Rattle.std.specs.FinMap.Entries.{below_all, is_sorted-put, is_sorted-where_key, find-where_key, put, find, where_key}
use Rattle.std.specs.declared.cmp.Ordering.TheVariants.{Equal}
use Rattle.std.proofs.lemmas.Cmp.{nat_cmp_total, eq_by_cmp_equiv, ranked}
use Rattle.fixed_tables.specs.Fixed.{Fixed, left_by}
use Rattle.fixed_tables.specs.Inside.{fixed_in, IsFixed}
use Rattle.fixed_tables.specs.Rows.{IsAt, IsBetween}
use Rattle.fixed_tables.specs.declared.table.FixedTable.TheInside.{Inside}
use Rattle.fixed_tables.proofs.Rows.{above_all, both, first, second, tied, untied, find_at, find_between, nowhere, put_at, put_between, remove_at, remove_between}

module _ {V : Type 0} (es fs : List (ℕ × V)) (place k : ℕ) (e : es ≡ fs) where
  pub at_in : IsAt es place k → IsAt fs place k
  at_in is = subst (λ (rows : List (ℕ × V)). IsAt rows place k) e is

  pub between_in : IsBetween es place k → IsBetween fs place k
  between_in is = subst (λ (rows : List (ℕ × V)). IsBetween rows place k) e is

module _ {V : Type 0} (t : Inside V) (h : IsFixed t) where
  pub entries_are : map.entries (fixed_in t).at ≡ t.rows.items
  entries_are = map.entries-from_sorted nat_cmp t.rows.items h.rise

  get_is : (k : ℕ) → map.get (fixed_in t).at k ≡ find nat_cmp k t.rows.items
  get_is k = map.get-from_sorted nat_cmp t.rows.items k h.rise

  pub len_is : map.len (fixed_in t).at ≡ vec_len t.rows
  len_is = map.len-entries (fixed_in t).at ∙ ap length entries_are ∙ sym (t.rows.ok.0)

  -- ---- what is there

  pub found : (place k : ℕ) (r : ℕ × V) → IsAt t.rows.items place k → r ≡ get_or t.rows.items place r → Some r.1 ≡ map.get (fixed_in t).at k
  found place k r at is = ap (λ (x : ℕ × V). Some x.1) is ∙ sym (get_is k ∙ find_at t.rows.items k place r h.rise at.inside (at.here r))

  pub missed : (place k : ℕ) → IsBetween t.rows.items place k → None ≡ map.get (fixed_in t).at k
  missed place k between = sym (get_is k ∙ find_between t.rows.items k (nowhere t.rows.items k place between))

  -- ---- a row that is new, or has another value, or goes

  module _ (rows : Vec (ℕ × V) Global) (k : ℕ) where
    abbrev pub with_rows : Inside V
    with_rows = record { rows = rows; room = t.room }

    pub put_stays : (v : V) → rows.items ≡ put nat_cmp k v t.rows.items → vec_len rows ≤ t.room → t.room ≤ vec_capacity rows → IsFixed with_rows
    put_stays v is fits room = record { rise = subst (λ (es : List (ℕ × V)). T (map.is_sorted nat_cmp es)) (sym is) (is_sorted-put nat_cmp nat_cmp_total k v t.rows.items h.rise); fits = fits; room = room }

    pub puts : (v : V) → rows.items ≡ put nat_cmp k v t.rows.items → fixed_in with_rows ≡ record (fixed_in t) { at = map.insert (fixed_in t).at k v }
    puts v is = λ i. record {
      at = (map.same_entries_map (map.from_sorted rows.items) (map.insert (fixed_in t).at k v)
          (map.entries-from_sorted nat_cmp rows.items (subst (λ (es : List (ℕ × V)). T (map.is_sorted nat_cmp es)) (sym is) (is_sorted-put nat_cmp nat_cmp_total k v t.rows.items h.rise))
          ∙ is ∙ ap (put nat_cmp k v) (sym entries_are) ∙ sym (map.entries-insert nat_cmp_total (fixed_in t).at k v))) i;
      room = t.room;
    }

    abbrev stays_in : ℕ → Bool
    stays_in x = not (eq_by_cmp nat_cmp k x)

    abbrev pub without : List (ℕ × V)
    without = where_key nat_cmp stays_in t.rows.items

    without_rises : T (map.is_sorted nat_cmp without)
    without_rises = is_sorted-where_key nat_cmp stays_in t.rows.items h.rise

    pub remove_stays : rows.items ≡ without → vec_len rows ≤ t.room → t.room ≤ vec_capacity rows → IsFixed with_rows
    remove_stays is fits room = record { rise = subst (λ (es : List (ℕ × V)). T (map.is_sorted nat_cmp es)) (sym is) without_rises; fits = fits; room = room }

    left_of : (b c : Bool) (o : Option V) → b ≡ c → cond (not b) o None ≡ cond c None o
    left_of true true o e = refl
    left_of true false o e = absurd (true≢false e)
    left_of false true o e = absurd (true≢false (sym e))
    left_of false false o e = refl

    gets_left : (q : ℕ) → map.get (map.from_sorted {R = nat_cmp} without) q ≡ map.get (map.remove (fixed_in t).at k) q
    gets_left q =
        map.get-from_sorted nat_cmp without q without_rises
        ∙ find-where_key nat_cmp stays_in q (λ x e. ap stays_in (sym (ranked q x Equal (sym e)))) t.rows.items
        ∙ left_of (eq_by_cmp nat_cmp k q) (eq_by_cmp nat_cmp q k) (find nat_cmp q t.rows.items) ((eq_by_cmp_equiv nat_cmp_total).symm k q)
        ∙ ap (cond (eq_by_cmp nat_cmp q k) None) (sym (get_is q))
        ∙ sym (map.get-remove nat_cmp_total (fixed_in t).at k q)

    pub removes : rows.items ≡ without → fixed_in with_rows ≡ record (fixed_in t) { at = map.remove (fixed_in t).at k }
    removes is = λ i. record {
      at = (ap (map.from_sorted {R = nat_cmp}) is ∙ map.same_map nat_cmp_total map.nat_cmp-IsAntisymmetric _ _ gets_left) i;
      room = t.room;
    }

  -- ---- the three edits

  pub put_over : (place k : ℕ) (r : ℕ × V) (w v : V) → IsAt t.rows.items place k → r ≡ get_or t.rows.items place r → w ≡ v → set t.rows.items place (r.0, w) ≡ put nat_cmp k v t.rows.items
  put_over place k r w v at is e =
      ap (λ (x : V). set t.rows.items place (r.0, x)) e ∙ ap (λ (x : ℕ × V). set t.rows.items place (x.0, v)) is ∙ sym (put_at t.rows.items k place v r h.rise at.inside (at.here r))

  pub put_new : (place k : ℕ) (v : V) → IsBetween t.rows.items place k → insert t.rows.items place (k, v) ≡ put nat_cmp k v t.rows.items
  put_new place k v between = sym (put_between t.rows.items k place v between.inside between.below between.above)

  pub take_out : (place k : ℕ) → IsAt t.rows.items place k → remove t.rows.items place ≡ where_key nat_cmp (λ x. not (eq_by_cmp nat_cmp k x)) t.rows.items
  take_out place k at = by t.rows.items refl
    where
      by : (es : List (ℕ × V)) → t.rows.items ≡ es → remove t.rows.items place ≡ where_key nat_cmp (λ x. not (eq_by_cmp nat_cmp k x)) t.rows.items
      by [] e = absurd (let none : length t.rows.items ≡ 0 = ap length e in let inside = at.inside in omega arith)
      by (d ∷ es) e = sym (remove_at t.rows.items k place d h.rise at.inside (at.here d))

  -- what isn't there has nothing to be taken
  pub nothing_to_take : (place k : ℕ) → IsBetween t.rows.items place k → t.rows.items ≡ where_key nat_cmp (λ x. not (eq_by_cmp nat_cmp k x)) t.rows.items
  nothing_to_take place k between = sym (remove_between t.rows.items k (nowhere t.rows.items k place between))

  -- a number that isn't there may come in, where the table has it or room
  pub has_room : (f : Fixed V) (place k : ℕ) → fixed_in t ≡ f → IsBetween t.rows.items place k → (map.contains_key f.at k ≡ true) ⊎ (map.len f.at < f.room) → vec_len t.rows < t.room
  has_room f place k is between (inl there) =
      absurd (true≢false (sym there ∙ ap (λ (x : Fixed V). is_some (map.get x.at k)) (sym is) ∙ ap is_some (sym (missed place k between))))
  has_room f place k is between (inr less) = subst (λ n. n < t.room) len_is (subst (λ (x : Fixed V). map.len x.at < x.room) (sym is) less)

pub none_is_empty : {V : Type 0} (es : List (ℕ × V)) (n : ℕ) → es ≡ [] → ◌≡◌ {A = Fixed V} (record { at = map.from_sorted es; room = n }) (record { at = map.empty; room = n })
none_is_empty {V} es n e = λ i. record { at = (ap (map.from_sorted {R = nat_cmp}) e ∙ map.empty_of_len (map.from_sorted {R = nat_cmp} none) (map.len-entries (map.from_sorted {R = nat_cmp} none) ∙ ap length (map.entries-from_sorted nat_cmp none tt))) i; room = n }
  where
    none : List (ℕ × V)
    none = []

-- ---- the rows that pass a test

module _ {V : Type 0} (stays : ℕ → V → Bool) where
  abbrev pub staying : List (ℕ × V) → List (ℕ × V)
  staying = filter (λ (e : ℕ × V). stays e.0 e.1)

  below_chosen : (k : ℕ) (e : ℕ × V) (b : Bool) (es : List (ℕ × V)) → T (is_lt (nat_cmp k e.0)) → T (below_all nat_cmp k es) → T (below_all nat_cmp k (cond b (e ∷ es) es))
  below_chosen k e true es p h = both _ _ p h
  below_chosen k e false es p h = h

  below_staying : (k : ℕ) (es : List (ℕ × V)) → T (below_all nat_cmp k es) → T (below_all nat_cmp k (staying es))
  below_staying k [] h = tt
  below_staying k (e ∷ es) h = below_chosen k e (stays e.0 e.1) (staying es) (first _ _ h) (below_staying k es (second _ _ h))

  rise_chosen : (e : ℕ × V) (b : Bool) (es : List (ℕ × V)) → T (below_all nat_cmp e.0 es) → T (map.is_sorted nat_cmp es) → T (map.is_sorted nat_cmp (cond b (e ∷ es) es))
  rise_chosen e true es p h = both _ _ p h
  rise_chosen e false es p h = h

  pub staying_rise : (es : List (ℕ × V)) → T (map.is_sorted nat_cmp es) → T (map.is_sorted nat_cmp (staying es))
  staying_rise [] h = tt
  staying_rise (e ∷ es) h = rise_chosen e (stays e.0 e.1) (staying es) (below_staying e.0 es (first _ _ h)) (staying_rise es (second _ _ h))

  absent : (k : ℕ) (es : List (ℕ × V)) → T (below_all nat_cmp k es) → find nat_cmp k es ≡ None
  absent k es h = find_between es k (λ j d inside e. let more = above_all k es h j d inside in absurd (omega arith))

  pub find_staying : (q : ℕ) (es : List (ℕ × V)) → T (map.is_sorted nat_cmp es) → find nat_cmp q (staying es) ≡ left_by (stays q) (find nat_cmp q es)
  find_staying q [] h = refl
  find_staying q (e ∷ es) h = by (cases_eq q e.0) (find_staying q es (second _ _ h))
    where
      here : (b c : Bool) → b ≡ c → find nat_cmp q (staying es) ≡ None → eq_by_cmp nat_cmp q e.0 ≡ true
          → find nat_cmp q (cond b (e ∷ staying es) (staying es)) ≡ cond c (Some e.1) None
      here true true s none at = ap (λ t. cond t (Some e.1) (find nat_cmp q (staying es))) at
      here false false s none at = none
      here true false s none at = absurd (true≢false s)
      here false true s none at = absurd (true≢false (sym s))

      there : (b : Bool) → eq_by_cmp nat_cmp q e.0 ≡ false → find nat_cmp q (cond b (e ∷ staying es) (staying es)) ≡ find nat_cmp q (staying es)
      there true at = ap (λ t. cond t (Some e.1) (find nat_cmp q (staying es))) at
      there false at = refl

      by : (q ≡ e.0) ⊎ (q ≡ e.0 → ⊥) → find nat_cmp q (staying es) ≡ left_by (stays q) (find nat_cmp q es) → find nat_cmp q (staying (e ∷ es)) ≡ left_by (stays q) (find nat_cmp q (e ∷ es))
      by (inl same) rest =
          let at : eq_by_cmp nat_cmp q e.0 ≡ true = tied q e.0 same in
          let none : find nat_cmp q es ≡ None = subst (λ n. find nat_cmp n es ≡ None) (sym same) (absent e.0 es (first _ _ h)) in
          here (stays e.0 e.1) (stays q e.1) (ap (λ n. stays n e.1) (sym same)) (rest ∙ ap (left_by (stays q)) none) at
          ∙ ap (λ t. left_by (stays q) (cond t (Some e.1) (find nat_cmp q es))) (sym at)
      by (inr apart) rest =
          let at : eq_by_cmp nat_cmp q e.0 ≡ false = untied q e.0 apart in
          there (stays e.0 e.1) at ∙ rest ∙ ap (λ t. left_by (stays q) (cond t (Some e.1) (find nat_cmp q es))) (sym at)

  module _ (t : Inside V) (h : IsFixed t) (rows : Vec (ℕ × V) Global) (is : rows.items ≡ staying t.rows.items) where
    rises : T (map.is_sorted nat_cmp rows.items)
    rises = subst (λ (es : List (ℕ × V)). T (map.is_sorted nat_cmp es)) (sym is) (staying_rise t.rows.items h.rise)

    pub keep_stays : vec_len rows ≤ vec_len t.rows → vec_capacity rows ≡ vec_capacity t.rows → IsFixed (record { rows = rows; room = t.room })
    keep_stays fewer same = record {
      rise = rises;
      fits = let fits = h.fits in omega arith;
      room = subst (λ n. t.room ≤ n) (sym same) h.room;
    }

    pub keeps : (q : ℕ) → map.get (map.from_sorted {R = nat_cmp} rows.items) q ≡ left_by (stays q) (map.get (fixed_in t).at q)
    keeps q =
        map.get-from_sorted nat_cmp rows.items q rises ∙ ap (find nat_cmp q) is ∙ find_staying q t.rows.items h.rise ∙ ap (left_by (stays q)) (sym (map.get-from_sorted nat_cmp t.rows.items q h.rise))

    pub keeps_fewer : vec_len rows ≤ vec_len t.rows → map.len (map.from_sorted {R = nat_cmp} rows.items) ≤ map.len (fixed_in t).at
    keeps_fewer fewer =
        let a : map.len (map.from_sorted {R = nat_cmp} rows.items) ≡ length rows.items = map.len-entries (map.from_sorted {R = nat_cmp} rows.items) ∙ ap length (map.entries-from_sorted nat_cmp rows.items rises) in
        let b : map.len (fixed_in t).at ≡ length t.rows.items = map.len-entries (fixed_in t).at ∙ ap length (map.entries-from_sorted nat_cmp t.rows.items h.rise) in
        let m : vec_len rows ≡ length rows.items = rows.ok.0 in
        let n : vec_len t.rows ≡ length t.rows.items = t.rows.ok.0 in
        omega arith
