-- The life of a node in a view, and of its ask: what is under way of it, what waits and what is granted, against what its holder has.
use Rattle.std.proofs.Common.{◌≡◌, ◌≢◌, ◌⊎◌, ℕ, inl, inr, Bool, true, false, Option, None, Some, List, [], ◌∷◌, ◌++◌, refl, sym, ap, ◌∙◌, subst}
use Rattle.std.specs.Prelude.{option_to_list}
use Rattle.std.specs.List.{AllByRecursion}
use Rattle.dlm_modes.specs.declared.Mode.{Mode}
use Rattle.dlm_modes.specs.declared.Mode.TheVariants.{Nl}
use Rattle.dlm_modes.specs.Modes.{is_at_least}
use Rattle.dlm_modes.proofs.ModeLaws.{covers-itself, covers-through}
use Rattle.dlm_master.proofs.TurnLaws.{covers-null}
use Rattle.conversion_laws.specs.Parts.{Tell, Reports, Ends, Lowers, Requests, Converts, asked_in}

-- what is seen of a node: whether it has taken the view, is a member and has ended; its holder's ask and mode, the table's mode and the
-- mode that waits there, what is coming from it and what is granted to it and on its way
pub record Sight : Type 0 where
  pub taken : Bool
  pub member : Bool
  pub ended : Bool
  pub wanted : Option Mode
  pub mode : Mode
  pub table : Mode
  pub waits : Option Mode
  pub coming : List Tell
  pub granted : List Mode

-- the calls lower what the table has step by step to what the node holds; an ask is the last of them, and is the holder's
abbrev pub Leads : Option Mode → Mode → List Tell → Mode → Type 0
Leads asked t [] h = (asked ≡ None) × (t ≡ h)
Leads asked t (Ends ∷ q) h = Leads asked t q h
Leads asked t (Lowers mode value ∷ q) h = (is_at_least t mode ≡ true) × Leads asked mode q h
Leads asked t (Requests mode ∷ q) h = (q ≡ []) × (asked ≡ Some mode) × (t ≡ h) × (h ≡ Nl)
Leads asked t (Converts mode ∷ q) h = (q ≡ []) × (asked ≡ Some mode) × (t ≡ h) × (h ≢ Nl) × (is_at_least mode h ≡ true)
Leads asked t (Reports mode ∷ q) h = ⊥

-- a member hasn't taken the view, or its report is still coming, while the table is made anew (early); a node tells what it lowers and
-- asks; its ask waits; it is granted and on its way; or, where grants may be lost, the grant was dropped
pub data Stage (lossy early : Type 0) (s : Sight) : Type 0 where
  Untaken : early → s.taken ≡ false → s.member ≡ true → s.ended ≡ false → s.table ≡ Nl → s.coming ≡ [] → s.waits ≡ None → s.granted ≡ [] → Stage lossy early s
  WillReport : early → s.taken ≡ true → s.member ≡ true → s.ended ≡ false → s.table ≡ Nl → (m : Mode) (q : List Tell) → s.coming ≡ Reports m ∷ q → Leads s.wanted m q s.mode
      → s.waits ≡ None → s.granted ≡ [] → Stage lossy early s
  Tells : s.taken ≡ true → Leads s.wanted s.table s.coming s.mode → s.waits ≡ None → s.granted ≡ [] → Stage lossy early s
  Waits : s.taken ≡ true → (m : Mode) → s.wanted ≡ Some m → s.coming ≡ [] → s.table ≡ s.mode → is_at_least m s.mode ≡ true → s.waits ≡ Some m → s.granted ≡ [] → Stage lossy early s
  Receives : s.taken ≡ true → (m : Mode) → s.wanted ≡ Some m → s.coming ≡ [] → s.table ≡ m → is_at_least m s.mode ≡ true → s.waits ≡ None → s.granted ≡ m ∷ [] → Stage lossy early s
  Dropped : lossy → s.taken ≡ true → (m : Mode) → s.wanted ≡ Some m → s.coming ≡ [] → is_at_least s.table s.mode ≡ true → s.waits ≡ None → s.granted ≡ [] → Stage lossy early s

-- two sights that agree
pub sees : {lossy early : Type 0} (a b : Sight) → (a.taken ≡ b.taken) × (a.member ≡ b.member) × (a.ended ≡ b.ended) → a.wanted ≡ b.wanted → a.mode ≡ b.mode → a.table ≡ b.table → a.waits ≡ b.waits
    → a.coming ≡ b.coming → a.granted ≡ b.granted → Stage lossy early a → Stage lossy early b
sees {lossy} {early} a b still wanted mode table waits coming granted stage =
    let same : a ≡ b = λ i. record {
      taken = still.0 i;
      member = still.1 i;
      ended = still.2 i;
      wanted = wanted i;
      mode = mode i;
      table = table i;
      waits = waits i;
      coming = coming i;
      granted = granted i;
    } in
    subst (Stage lossy early) same stage

no-cons : {X : Type 0} {C : Type 0} {x : X} {xs : List X} → [] ≡ x ∷ xs → C
no-cons {X} {C} {x} {xs} e = absurd (let f : [] ≡ x ∷ xs = e in cc)

some-none : {X : Type 0} {C : Type 0} {x : X} → None ≡ Some x → C
some-none {X} {C} {x} e = absurd (let f : None ≡ Some x = e in cc)

inside : {X : Type 0} {a b : X} → Some a ≡ Some b → a ≡ b
inside e = cc

-- ---- what a node tells

not-both : {C : Type 0} {b : Bool} → b ≡ true → b ≡ false → C
not-both {C} {b} e f = absurd (let h : true ≡ false = sym e ∙ f in cc)

leads-lower : (value : Option (List ℕ)) (t h mode : Mode) (q : List Tell) → Leads None t q h → is_at_least h mode ≡ true → Leads None t (q ++ Lowers mode value ∷ []) mode
leads-lower value t h mode [] l low = (ap (λ (m : Mode). is_at_least m mode) l.1 ∙ low, (refl, refl))
leads-lower value t h mode (Ends ∷ q) l low = leads-lower value t h mode q l low
leads-lower value t h mode (Lowers d v ∷ q) l low = (l.0, leads-lower value d h mode q l.1 low)
leads-lower value t h mode (Requests m ∷ q) l low = some-none l.1
leads-lower value t h mode (Converts m ∷ q) l low = some-none l.1
leads-lower value t h mode (Reports m ∷ q) l low = absurd l

leads-ask : (t h mode : Mode) (q : List Tell) → Leads None t q h → h ≡ Nl → Leads (Some mode) t (q ++ Requests mode ∷ []) h
leads-ask t h mode [] l null = (refl, refl, l.1, null)
leads-ask t h mode (Ends ∷ q) l null = leads-ask t h mode q l null
leads-ask t h mode (Lowers d v ∷ q) l null = (l.0, leads-ask d h mode q l.1 null)
leads-ask t h mode (Requests m ∷ q) l null = some-none l.1
leads-ask t h mode (Converts m ∷ q) l null = some-none l.1
leads-ask t h mode (Reports m ∷ q) l null = absurd l

leads-raise : (t h mode : Mode) (q : List Tell) → Leads None t q h → h ≢ Nl → is_at_least mode h ≡ true → Leads (Some mode) t (q ++ Converts mode ∷ []) h
leads-raise t h mode [] l some covers = (refl, refl, l.1, some, covers)
leads-raise t h mode (Ends ∷ q) l some covers = leads-raise t h mode q l some covers
leads-raise t h mode (Lowers d v ∷ q) l some covers = (l.0, leads-raise d h mode q l.1 some covers)
leads-raise t h mode (Requests m ∷ q) l some covers = some-none l.1
leads-raise t h mode (Converts m ∷ q) l some covers = some-none l.1
leads-raise t h mode (Reports m ∷ q) l some covers = absurd l

-- a node that has asked for nothing, and has taken the view, writes something more
says-more : {lossy early : Type 0} (s : Sight) (wanted : Option Mode) (mode : Mode) (more : List Tell) → Stage lossy early s → s.taken ≡ true → s.wanted ≡ None
    → ((t : Mode) (q : List Tell) → Leads None t q s.mode → Leads wanted t (q ++ more) mode) → Stage lossy early (record s { wanted = wanted; mode = mode; coming = s.coming ++ more })
says-more {lossy} {early} s wanted mode more (Untaken o taken member ended table coming waits granted) t none lead = not-both t taken
says-more {lossy} {early} s wanted mode more (WillReport o taken member ended table m q coming leads waits granted) t none lead =
    WillReport o taken member ended table m (q ++ more) (ap (λ (cs : List Tell). cs ++ more) coming) (lead m q (subst (λ (o : Option Mode). Leads o m q s.mode) none leads)) waits granted
says-more {lossy} {early} s wanted mode more (Tells taken leads waits granted) t none lead =
    Tells taken (lead s.table s.coming (subst (λ (o : Option Mode). Leads o s.table s.coming s.mode) none leads)) waits granted
says-more {lossy} {early} s wanted mode more (Waits taken m asked coming table covers waits granted) t none lead = some-none (sym none ∙ asked)
says-more {lossy} {early} s wanted mode more (Receives taken m asked coming table covers waits granted) t none lead = some-none (sym none ∙ asked)
says-more {lossy} {early} s wanted mode more (Dropped may taken m asked coming covers waits granted) t none lead = some-none (sym none ∙ asked)

pub lowers : {lossy early : Type 0} (s : Sight) (mode : Mode) (value : Option (List ℕ)) → Stage lossy early s → s.taken ≡ true → s.wanted ≡ None → is_at_least s.mode mode ≡ true
    → Stage lossy early (record s { mode = mode; coming = s.coming ++ Lowers mode value ∷ [] })
lowers {lossy} {early} s mode value stage taken none low = sees _ _ (refl, refl, refl) (sym none) refl refl refl refl refl
    (says-more s None mode (Lowers mode value ∷ []) stage taken none (λ t q leads. leads-lower value t s.mode mode q leads low))

pub asks : {lossy early : Type 0} (s : Sight) (mode : Mode) → Stage lossy early s → s.taken ≡ true → s.wanted ≡ None → s.mode ≡ Nl → Stage lossy early (record s { wanted = Some mode; coming = s.coming ++ Requests mode ∷ [] })
asks {lossy} {early} s mode stage taken none null = says-more s (Some mode) s.mode (Requests mode ∷ []) stage taken none (λ t q leads. leads-ask t s.mode mode q leads null)

pub raises : {lossy early : Type 0} (s : Sight) (mode : Mode) → Stage lossy early s → s.taken ≡ true → s.wanted ≡ None → s.mode ≢ Nl → is_at_least mode s.mode ≡ true
    → Stage lossy early (record s { wanted = Some mode; coming = s.coming ++ Converts mode ∷ [] })
raises {lossy} {early} s mode stage taken none some covers = says-more s (Some mode) s.mode (Converts mode ∷ []) stage taken none (λ t q leads. leads-raise t s.mode mode q leads some covers)

-- ---- a node takes the view

-- one that hasn't
pub untaken : {lossy early : Type 0} (s : Sight) → Stage lossy early s → s.taken ≡ false
    → early × (s.member ≡ true) × (s.ended ≡ false) × (s.table ≡ Nl) × (s.coming ≡ []) × (s.waits ≡ None) × (s.granted ≡ [])
untaken {lossy} {early} s (Untaken o taken member ended table coming waits granted) not = (o, member, ended, table, coming, waits, granted)
untaken {lossy} {early} s (WillReport o taken member ended table m q coming leads waits granted) not = not-both taken not
untaken {lossy} {early} s (Tells taken leads waits granted) not = not-both taken not
untaken {lossy} {early} s (Waits taken m asked coming table covers waits granted) not = not-both taken not
untaken {lossy} {early} s (Receives taken m asked coming table covers waits granted) not = not-both taken not
untaken {lossy} {early} s (Dropped may taken m asked coming covers waits granted) not = not-both taken not

-- it may hold less, and its ask doesn't matter
pub still-untaken : {lossy early : Type 0} (s : Sight) (wanted : Option Mode) (mode : Mode) → Stage lossy early s → s.taken ≡ false → Stage lossy early (record s { wanted = wanted; mode = mode })
still-untaken {lossy} {early} s wanted mode stage not =
    let u = untaken s stage not in
    Untaken u.0 not u.1 u.2 u.3 u.4 u.5 u.6

-- it tells what it holds, and that this is all
pub takes-view : {lossy early : Type 0} (s : Sight) (more : List Tell) → Stage lossy early s → s.taken ≡ false → (more ≡ Reports s.mode ∷ Ends ∷ []) ⊎ ((s.mode ≡ Nl) × (more ≡ Ends ∷ []))
    → Stage lossy early (record s { taken = true; wanted = None; coming = s.coming ++ more })
takes-view {lossy} {early} s more stage not (inl held) =
    let u = untaken s stage not in
    WillReport u.0 refl u.1 u.2 u.3 s.mode (Ends ∷ []) (ap (λ (cs : List Tell). cs ++ more) u.4 ∙ held) (refl, refl) u.5 u.6
takes-view {lossy} {early} s more stage not (inr none) =
    let u = untaken s stage not in
    Tells refl (subst (λ (cs : List Tell). Leads None s.table cs s.mode) (sym (ap (λ (cs : List Tell). cs ++ more) u.4 ∙ none.1)) (refl, u.3 ∙ sym none.0)) u.5 u.6

-- ---- what a node stands for

-- what it holds, where it hasn't taken the view; what its report says, where this is coming; else what the table has
abbrev pub stands_by : Bool → Mode → Mode → List Tell → Mode
stands_by false h t q = h
stands_by true h t [] = t
stands_by true h t (Reports m ∷ q) = m
stands_by true h t (Ends ∷ q) = t
stands_by true h t (Lowers m v ∷ q) = t
stands_by true h t (Requests m ∷ q) = t
stands_by true h t (Converts m ∷ q) = t

abbrev pub stands : Sight → Mode
stands s = stands_by s.taken s.mode s.table s.coming

-- of a node that tells it is what the table has
leads-stands : (asked : Option Mode) (t u h g : Mode) (q : List Tell) → Leads asked u q g → stands_by true h t q ≡ t
leads-stands asked t u h g [] l = refl
leads-stands asked t u h g (Ends ∷ q) l = refl
leads-stands asked t u h g (Lowers d v ∷ q) l = refl
leads-stands asked t u h g (Requests m ∷ q) l = refl
leads-stands asked t u h g (Converts m ∷ q) l = refl
leads-stands asked t u h g (Reports m ∷ q) l = absurd l

by-taken : (s : Sight) (b : Bool) (q : List Tell) → s.taken ≡ b → s.coming ≡ q → stands s ≡ stands_by b s.mode s.table q
by-taken s b q e f = ap (λ (b : Bool). stands_by b s.mode s.table s.coming) e ∙ ap (stands_by b s.mode s.table) f

-- ---- what the master hears

-- of whom something else than a report comes first tells
telling : {lossy early : Type 0} (s : Sight) (c : Tell) (q : List Tell) → Stage lossy early s → s.coming ≡ c ∷ q → ((m : Mode) → c ≡ Reports m → ⊥)
    → (s.taken ≡ true) × Leads s.wanted s.table (c ∷ q) s.mode × (s.waits ≡ None) × (s.granted ≡ [])
telling {lossy} {early} s c q (Untaken o taken member ended table coming waits granted) e other = no-cons (sym coming ∙ e)
telling {lossy} {early} s c q (WillReport o taken member ended table m rest coming leads waits granted) e other =
    let both : c ∷ q ≡ Reports m ∷ rest = sym e ∙ coming in
    absurd (other m (let is : c ≡ Reports m = cc in is))
telling {lossy} {early} s c q (Tells taken leads waits granted) e other = (taken, subst (λ (cs : List Tell). Leads s.wanted s.table cs s.mode) e leads, waits, granted)
telling {lossy} {early} s c q (Waits taken m wanted coming table covers waits granted) e other = no-cons (sym coming ∙ e)
telling {lossy} {early} s c q (Receives taken m wanted coming table covers waits granted) e other = no-cons (sym coming ∙ e)
telling {lossy} {early} s c q (Dropped may taken m wanted coming covers waits granted) e other = no-cons (sym coming ∙ e)

pub hears-lower : {lossy early : Type 0} (s : Sight) (mode : Mode) (value : Option (List ℕ)) (q : List Tell) → Stage lossy early s → s.coming ≡ Lowers mode value ∷ q
    → (is_at_least s.table mode ≡ true) × (s.waits ≡ None) × Stage lossy early (record s { table = mode; coming = q }) × (s.granted ≡ [])
    × (is_at_least (stands s) (stands (record s { table = mode; coming = q })) ≡ true)
hears-lower {lossy} {early} s mode value q stage e =
    let t = telling s (Lowers mode value) q stage e (λ m f. absurd (let h : Lowers mode value ≡ Reports m = f in cc)) in
    let old : stands s ≡ s.table = by-taken s true (Lowers mode value ∷ q) t.0 e in
    let new : stands (record s { table = mode; coming = q }) ≡ mode = by-taken (record s { table = mode; coming = q }) true q t.0 refl ∙ leads-stands s.wanted mode mode s.mode s.mode q t.1.1 in
    (t.1.0, t.2, Tells t.0 t.1.1 t.2 t.3, t.3, ap (λ (m : Mode). is_at_least m (stands (record s { table = mode; coming = q }))) old ∙ (ap (is_at_least s.table) new ∙ t.1.0))

pub hears-end : {lossy early : Type 0} (s : Sight) (q : List Tell) → Stage lossy early s → s.coming ≡ Ends ∷ q
    → Stage lossy early (record s { ended = true; coming = q }) × (stands (record s { ended = true; coming = q }) ≡ stands s)
hears-end {lossy} {early} s q stage e =
    let t = telling s Ends q stage e (λ m f. absurd (let h : Ends ≡ Reports m = f in cc)) in
    (Tells t.0 t.1 t.2 t.3, by-taken (record s { ended = true; coming = q }) true q t.0 refl ∙ (leads-stands s.wanted s.table s.table s.mode s.mode q t.1 ∙ sym (by-taken s true (Ends ∷ q) t.0 e)))

-- a report
pub record IsRead (lossy early : Type 0) (s : Sight) (mode : Mode) (q : List Tell) : Type 0 where
  pub under : early
  pub waits : s.waits ≡ None
  pub granted : s.granted ≡ []
  pub stage : Stage lossy early (record s { table = mode; coming = q })
  -- it stood for this before, and does now
  pub before : stands s ≡ mode
  pub after : stands (record s { table = mode; coming = q }) ≡ mode

pub hears-report : {lossy early : Type 0} (s : Sight) (mode : Mode) (q : List Tell) → Stage lossy early s → s.coming ≡ Reports mode ∷ q → IsRead lossy early s mode q
hears-report {lossy} {early} s mode q (WillReport o taken member ended table m rest coming leads waits granted) e =
    let both : Reports m ∷ rest ≡ Reports mode ∷ q = sym coming ∙ e in
    let is : m ≡ mode = cc in
    let left : rest ≡ q = cc in
    let told : Leads s.wanted mode q s.mode = subst (λ (cs : List Tell). Leads s.wanted mode cs s.mode) left (subst (λ (t : Mode). Leads s.wanted t rest s.mode) is leads) in
    record {
      under = o;
      waits = waits;
      granted = granted;
      stage = Tells taken told waits granted;
      before = by-taken s true (Reports mode ∷ q) taken e;
      after = by-taken (record s { table = mode; coming = q }) true q taken refl ∙ leads-stands s.wanted mode mode s.mode s.mode q told;
    }
hears-report {lossy} {early} s mode q (Untaken o taken member ended table coming waits granted) e = no-cons (sym coming ∙ e)
hears-report {lossy} {early} s mode q (Tells taken leads waits granted) e = absurd (subst (λ (cs : List Tell). Leads s.wanted s.table cs s.mode) e leads)
hears-report {lossy} {early} s mode q (Waits taken m wanted coming table covers waits granted) e = no-cons (sym coming ∙ e)
hears-report {lossy} {early} s mode q (Receives taken m wanted coming table covers waits granted) e = no-cons (sym coming ∙ e)
hears-report {lossy} {early} s mode q (Dropped may taken m wanted coming covers waits granted) e = no-cons (sym coming ∙ e)

-- an ask that comes to the table
pub record IsHeard (s : Sight) (mode : Mode) (q : List Tell) : Type 0 where
  pub taken : s.taken ≡ true
  pub wanted : s.wanted ≡ Some mode
  pub last : q ≡ []
  pub same : s.table ≡ s.mode
  pub covers : is_at_least mode s.mode ≡ true
  pub waits : s.waits ≡ None
  pub granted : s.granted ≡ []
  pub listed : stands s ≡ s.table

pub hears-request : {lossy early : Type 0} (s : Sight) (mode : Mode) (q : List Tell) → Stage lossy early s → s.coming ≡ Requests mode ∷ q → IsHeard s mode q × (s.table ≡ Nl)
hears-request {lossy} {early} s mode q stage e =
    let t = telling s (Requests mode) q stage e (λ m f. absurd (let h : Requests mode ≡ Reports m = f in cc)) in (
      record { taken = t.0; wanted = t.1.1; last = t.1.0; same = t.1.2; covers = ap (is_at_least mode) t.1.3 ∙ covers-null mode; waits = t.2; granted = t.3; listed = by-taken s true (Requests mode ∷ q) t.0 e },
      t.1.2 ∙ t.1.3,
    )

pub hears-conversion : {lossy early : Type 0} (s : Sight) (mode : Mode) (q : List Tell) → Stage lossy early s → s.coming ≡ Converts mode ∷ q → IsHeard s mode q × (s.table ≢ Nl)
hears-conversion {lossy} {early} s mode q stage e =
    let t = telling s (Converts mode) q stage e (λ m f. absurd (let h : Converts mode ≡ Reports m = f in cc)) in (
      record { taken = t.0; wanted = t.1.1; last = t.1.0; same = t.1.2; covers = t.1.4; waits = t.2; granted = t.3; listed = by-taken s true (Converts mode ∷ q) t.0 e },
      λ null. t.1.3 (sym t.1.2 ∙ null),
    )

pub then-waits : {lossy early : Type 0} (s : Sight) (mode : Mode) (q : List Tell) → IsHeard s mode q → Stage lossy early (record s { waits = Some mode; coming = q })
then-waits {lossy} {early} s mode q h = Waits h.taken mode h.wanted h.last h.same h.covers refl h.granted

pub then-stands : (s : Sight) (mode : Mode) (q : List Tell) → IsHeard s mode q → stands (record s { waits = Some mode; coming = q }) ≡ stands s
then-stands s mode q h = by-taken (record s { waits = Some mode; coming = q }) true [] h.taken h.last ∙ sym h.listed

pub then-granted : {lossy early : Type 0} (s : Sight) (mode : Mode) (q : List Tell) → IsHeard s mode q → Stage lossy early (record s { table = mode; coming = q; granted = s.granted ++ mode ∷ [] })
then-granted {lossy} {early} s mode q h = Receives h.taken mode h.wanted h.last refl h.covers h.waits (ap (λ (g : List Mode). g ++ mode ∷ []) h.granted)

-- who waits is granted what it waits for
pub is-granted : {lossy early : Type 0} (s : Sight) (mode : Mode) → Stage lossy early s → s.waits ≡ Some mode → Stage lossy early (record s { table = mode; waits = None; granted = s.granted ++ mode ∷ [] })
is-granted {lossy} {early} s mode (Waits taken m wanted coming table covers waits granted) e =
    let is : m ≡ mode = inside (sym waits ∙ e) in
    Receives taken mode (wanted ∙ ap (λ (m : Mode). Some m) is) coming refl (ap (λ (m : Mode). is_at_least m s.mode) (sym is) ∙ covers) refl (ap (λ (g : List Mode). g ++ mode ∷ []) granted)
is-granted {lossy} {early} s mode (Untaken o taken member ended table coming waits granted) e = some-none (sym waits ∙ e)
is-granted {lossy} {early} s mode (WillReport o taken member ended table m q coming leads waits granted) e = some-none (sym waits ∙ e)
is-granted {lossy} {early} s mode (Tells taken leads waits granted) e = some-none (sym waits ∙ e)
is-granted {lossy} {early} s mode (Receives taken m wanted coming table covers waits granted) e = some-none (sym waits ∙ e)
is-granted {lossy} {early} s mode (Dropped may taken m wanted coming covers waits granted) e = some-none (sym waits ∙ e)

-- ---- what a node is granted

-- the grant is the one for which it asked, and the only one
record Arrives (s : Sight) (mode : Mode) (g : List Mode) : Type 0 where
  taken : s.taken ≡ true
  wanted : s.wanted ≡ Some mode
  coming : s.coming ≡ []
  table : s.table ≡ mode
  covers : is_at_least mode s.mode ≡ true
  waits : s.waits ≡ None
  alone : g ≡ []

arrives : {lossy early : Type 0} (s : Sight) (mode : Mode) (g : List Mode) → Stage lossy early s → s.granted ≡ mode ∷ g → Arrives s mode g
arrives {lossy} {early} s mode g (Receives taken m wanted coming table covers waits granted) e =
    let both : m ∷ [] ≡ mode ∷ g = sym granted ∙ e in
    let is : m ≡ mode = cc in
    let none : [] ≡ g = cc in
    record {
      taken = taken;
      wanted = wanted ∙ ap (λ (m : Mode). Some m) is;
      coming = coming;
      table = table ∙ is;
      covers = ap (λ (m : Mode). is_at_least m s.mode) (sym is) ∙ covers;
      waits = waits;
      alone = sym none;
    }
arrives {lossy} {early} s mode g (Untaken o taken member ended table coming waits granted) e = no-cons (sym granted ∙ e)
arrives {lossy} {early} s mode g (WillReport o taken member ended table m q coming leads waits granted) e = no-cons (sym granted ∙ e)
arrives {lossy} {early} s mode g (Tells taken leads waits granted) e = no-cons (sym granted ∙ e)
arrives {lossy} {early} s mode g (Waits taken m wanted coming table covers waits granted) e = no-cons (sym granted ∙ e)
arrives {lossy} {early} s mode g (Dropped may taken m wanted coming covers waits granted) e = no-cons (sym granted ∙ e)

pub was-asked : {lossy early : Type 0} (s : Sight) (mode : Mode) (g : List Mode) → Stage lossy early s → s.granted ≡ mode ∷ g → (s.taken ≡ true) × (s.wanted ≡ Some mode)
was-asked {lossy} {early} s mode g stage e = let a = arrives s mode g stage e in (a.taken, a.wanted)

pub takes : {lossy early : Type 0} (s : Sight) (mode : Mode) (g : List Mode) → Stage lossy early s → s.granted ≡ mode ∷ g → Stage lossy early (record s { wanted = None; mode = mode; granted = g })
takes {lossy} {early} s mode g stage e =
    let a = arrives s mode g stage e in
    Tells a.taken (subst (λ (cs : List Tell). Leads None s.table cs mode) (sym a.coming) (refl, a.table)) a.waits a.alone

pub drops : {lossy early : Type 0} → lossy → (s : Sight) (mode : Mode) (g : List Mode) → Stage lossy early s → s.granted ≡ mode ∷ g → Stage lossy early (record s { granted = g })
drops {lossy} {early} may s mode g stage e =
    let a = arrives s mode g stage e in
    Dropped may a.taken mode a.wanted a.coming (ap (λ (m : Mode). is_at_least m s.mode) a.table ∙ a.covers) a.waits a.alone

-- ---- one ask

leads-asks : (asked : Option Mode) (t h : Mode) (q : List Tell) → Leads asked t q h → (asked_in q ≡ []) ⊎ ((mode : Mode) × (asked_in q ≡ mode ∷ []) × (asked ≡ Some mode))
leads-asks asked t h [] l = inl refl
leads-asks asked t h (Ends ∷ q) l = leads-asks asked t h q l
leads-asks asked t h (Lowers d v ∷ q) l = leads-asks asked d h q l.1
leads-asks asked t h (Requests m ∷ q) l = inr (m, ap (λ (cs : List Tell). m ∷ asked_in cs) l.0, l.1)
leads-asks asked t h (Converts m ∷ q) l = inr (m, ap (λ (cs : List Tell). m ∷ asked_in cs) l.0, l.1)
leads-asks asked t h (Reports m ∷ q) l = absurd l

abbrev pub in_progress : Sight → List Mode
in_progress s = asked_in s.coming ++ option_to_list s.waits ++ s.granted

all-three : (s : Sight) (coming : List Tell) (waits : Option Mode) (granted : List Mode) → s.coming ≡ coming → s.waits ≡ waits → s.granted ≡ granted
    → in_progress s ≡ asked_in coming ++ option_to_list waits ++ granted
all-three s coming waits granted c w g =
    ap (λ (cs : List Tell). asked_in cs ++ option_to_list s.waits ++ s.granted) c
    ∙ (ap (λ (o : Option Mode). asked_in coming ++ option_to_list o ++ s.granted) w ∙ ap (λ (ms : List Mode). asked_in coming ++ option_to_list waits ++ ms) g)

-- what a node tells has its ask, or none
telling-asks : (s : Sight) (coming : List Tell) (t : Mode) → s.coming ≡ coming → Leads s.wanted t coming s.mode → s.waits ≡ None → s.granted ≡ []
    → (in_progress s ≡ []) ⊎ ((mode : Mode) × (in_progress s ≡ mode ∷ []) × (s.wanted ≡ Some mode))
telling-asks s coming t is leads waits granted = elim (leads-asks s.wanted t s.mode coming leads) [
  | inl none ↦ inl (all-three s coming None [] is waits granted ∙ ap (λ (ms : List Mode). ms ++ [] ++ []) none)
  | inr one ↦ inr (one.0, all-three s coming None [] is waits granted ∙ ap (λ (ms : List Mode). ms ++ [] ++ []) one.1, one.2)
]

-- its report, which is before that, asks for nothing
reporting-asks : (s : Sight) (m : Mode) (q : List Tell) → s.coming ≡ Reports m ∷ q → Leads s.wanted m q s.mode → s.waits ≡ None → s.granted ≡ []
    → (in_progress s ≡ []) ⊎ ((mode : Mode) × (in_progress s ≡ mode ∷ []) × (s.wanted ≡ Some mode))
reporting-asks s m q is leads waits granted = elim (leads-asks s.wanted m s.mode q leads) [
  | inl none ↦ inl (all-three s (Reports m ∷ q) None [] is waits granted ∙ ap (λ (ms : List Mode). ms ++ [] ++ []) none)
  | inr one ↦ inr (one.0, all-three s (Reports m ∷ q) None [] is waits granted ∙ ap (λ (ms : List Mode). ms ++ [] ++ []) one.1, one.2)
]

pub one-ask : {lossy early : Type 0} (s : Sight) → Stage lossy early s → (in_progress s ≡ []) ⊎ ((mode : Mode) × (in_progress s ≡ mode ∷ []) × (s.wanted ≡ Some mode))
one-ask {lossy} {early} s (Untaken o taken member ended table coming waits granted) = inl (all-three s [] None [] coming waits granted)
one-ask {lossy} {early} s (WillReport o taken member ended table m q coming leads waits granted) =
    reporting-asks s m q coming leads waits granted
one-ask {lossy} {early} s (Tells taken leads waits granted) = telling-asks s s.coming s.table refl leads waits granted
one-ask {lossy} {early} s (Waits taken m wanted coming table covers waits granted) = inr (m, all-three s [] (Some m) [] coming waits granted, wanted)
one-ask {lossy} {early} s (Receives taken m wanted coming table covers waits granted) = inr (m, all-three s [] None (m ∷ []) coming waits granted, wanted)
one-ask {lossy} {early} s (Dropped may taken m wanted coming covers waits granted) = inl (all-three s [] None [] coming waits granted)

leads-some : (asked : Option Mode) (t h : Mode) (q : List Tell) → Leads asked t q h → (mode : Mode) → asked ≡ Some mode → asked_in q ≡ mode ∷ []
leads-some asked t h [] l mode e = some-none (sym l.0 ∙ e)
leads-some asked t h (Ends ∷ q) l mode e = leads-some asked t h q l mode e
leads-some asked t h (Lowers d v ∷ q) l mode e = leads-some asked d h q l.1 mode e
leads-some asked t h (Requests m ∷ q) l mode e = ap (λ (cs : List Tell). m ∷ asked_in cs) l.0 ∙ ap (λ (m : Mode). m ∷ []) (inside (sym l.1 ∙ e))
leads-some asked t h (Converts m ∷ q) l mode e = ap (λ (cs : List Tell). m ∷ asked_in cs) l.0 ∙ ap (λ (m : Mode). m ∷ []) (inside (sym l.1 ∙ e))
leads-some asked t h (Reports m ∷ q) l mode e = absurd l

-- where no grant is lost the ask of a node that has taken the view is in progress
pub still-asked : {early : Type 0} (s : Sight) → Stage ⊥ early s → s.taken ≡ true → (mode : Mode) → s.wanted ≡ Some mode → in_progress s ≡ mode ∷ []
still-asked {early} s (Untaken o taken member ended table coming waits granted) t mode e = not-both t taken
still-asked {early} s (WillReport o taken member ended table m q coming leads waits granted) t mode e =
    all-three s (Reports m ∷ q) None [] coming waits granted ∙ ap (λ (ms : List Mode). ms ++ [] ++ []) (leads-some s.wanted m s.mode q leads mode e)
still-asked {early} s (Tells taken leads waits granted) t mode e =
    all-three s s.coming None [] refl waits granted ∙ ap (λ (ms : List Mode). ms ++ [] ++ []) (leads-some s.wanted s.table s.mode s.coming leads mode e)
still-asked {early} s (Waits taken m wanted coming table covers waits granted) t mode e = all-three s [] (Some m) [] coming waits granted ∙ ap (λ (m : Mode). m ∷ []) (inside (sym wanted ∙ e))
still-asked {early} s (Receives taken m wanted coming table covers waits granted) t mode e = all-three s [] None (m ∷ []) coming waits granted ∙ ap (λ (m : Mode). m ∷ []) (inside (sym wanted ∙ e))
still-asked {early} s (Dropped may taken m wanted coming covers waits granted) t mode e = absurd may

-- ---- what the table has of a node, or will have

leads-covers : (asked : Option Mode) (t h : Mode) (q : List Tell) → Leads asked t q h → is_at_least t h ≡ true
leads-covers asked t h [] l = ap (λ (m : Mode). is_at_least m h) l.1 ∙ covers-itself h
leads-covers asked t h (Ends ∷ q) l = leads-covers asked t h q l
leads-covers asked t h (Lowers d v ∷ q) l = covers-through t d h l.0 (leads-covers asked d h q l.1)
leads-covers asked t h (Requests m ∷ q) l = ap (λ (m : Mode). is_at_least m h) l.2 ∙ covers-itself h
leads-covers asked t h (Converts m ∷ q) l = ap (λ (m : Mode). is_at_least m h) l.2 ∙ covers-itself h
leads-covers asked t h (Reports m ∷ q) l = absurd l

-- what a stage says of it
pub data Stands (lossy early : Type 0) (s : Sight) : Type 0 where
  AsHeld : early → stands s ≡ s.mode → s.table ≡ Nl → s.granted ≡ [] → Stands lossy early s
  AsReported : early → is_at_least (stands s) s.mode ≡ true → s.table ≡ Nl → s.granted ≡ [] → Stands lossy early s
  AsListed : stands s ≡ s.table → Stands lossy early s

pub how-it-stands : {lossy early : Type 0} (s : Sight) → Stage lossy early s → Stands lossy early s
how-it-stands {lossy} {early} s (Untaken o taken member ended table coming waits granted) = AsHeld o (by-taken s false [] taken coming) table granted
how-it-stands {lossy} {early} s (WillReport o taken member ended table m q coming leads waits granted) =
    AsReported o (ap (λ (t : Mode). is_at_least t s.mode) (by-taken s true (Reports m ∷ q) taken coming) ∙ leads-covers s.wanted m s.mode q leads) table granted
how-it-stands {lossy} {early} s (Tells taken leads waits granted) = AsListed (by-taken s true s.coming taken refl ∙ leads-stands s.wanted s.table s.table s.mode s.mode s.coming leads)
how-it-stands {lossy} {early} s (Waits taken m wanted coming table covers waits granted) = AsListed (by-taken s true [] taken coming)
how-it-stands {lossy} {early} s (Receives taken m wanted coming table covers waits granted) = AsListed (by-taken s true [] taken coming)
how-it-stands {lossy} {early} s (Dropped may taken m wanted coming covers waits granted) = AsListed (by-taken s true [] taken coming)

-- a node that has taken the view writes no report
pub stands-more : (h g t : Mode) (q : List Tell) (c : Tell) → ((m : Mode) → c ≡ Reports m → ⊥) → stands_by true h t (q ++ c ∷ []) ≡ stands_by true g t q
stands-more h g t [] (Reports m) other = absurd (other m refl)
stands-more h g t [] Ends other = refl
stands-more h g t [] (Lowers m v) other = refl
stands-more h g t [] (Requests m) other = refl
stands-more h g t [] (Converts m) other = refl
stands-more h g t (Reports m ∷ q) c other = refl
stands-more h g t (Ends ∷ q) c other = refl
stands-more h g t (Lowers m v ∷ q) c other = refl
stands-more h g t (Requests m ∷ q) c other = refl
stands-more h g t (Converts m ∷ q) c other = refl

-- and what it holds doesn't matter then
pub stands-held : (b : Bool) (h g t : Mode) (q : List Tell) → b ≡ true → stands_by b h t q ≡ stands_by b g t q
stands-held false h g t q e = not-both e refl
stands-held true h g t [] e = refl
stands-held true h g t (Reports m ∷ q) e = refl
stands-held true h g t (Ends ∷ q) e = refl
stands-held true h g t (Lowers m v ∷ q) e = refl
stands-held true h g t (Requests m ∷ q) e = refl
stands-held true h g t (Converts m ∷ q) e = refl

-- ---- the table covers

abbrev Covered : Mode → List Mode → Type 0
Covered t = AllByRecursion (λ mode. is_at_least t mode ≡ true)

-- of a node whose report has come
pub covered : {lossy early : Type 0} (s : Sight) → Stage lossy early s → (early → s.ended ≡ true) → AllByRecursion (λ mode. is_at_least s.table mode ≡ true) (s.mode ∷ s.granted)
covered {lossy} {early} s (Untaken o taken member ended table coming waits granted) told = not-both (told o) ended
covered {lossy} {early} s (WillReport o taken member ended table m q coming leads waits granted) told = not-both (told o) ended
covered {lossy} {early} s (Tells taken leads waits granted) told = (leads-covers s.wanted s.table s.mode s.coming leads, subst (Covered s.table) (sym granted) tt)
covered {lossy} {early} s (Waits taken m wanted coming table covers waits granted) told =
    (ap (λ (m : Mode). is_at_least m s.mode) table ∙ covers-itself s.mode, subst (Covered s.table) (sym granted) tt)
covered {lossy} {early} s (Receives taken m wanted coming table covers waits granted) told = (
  ap (λ (m : Mode). is_at_least m s.mode) table ∙ covers,
  subst (Covered s.table) (sym granted) (ap (λ (t : Mode). is_at_least t m) table ∙ covers-itself m, tt),
)
covered {lossy} {early} s (Dropped may taken m wanted coming covers waits granted) told = (covers, subst (Covered s.table) (sym granted) tt)

as-listed : {lossy : Type 0} (s : Sight) → Stage lossy ⊥ s → stands s ≡ s.table → AllByRecursion (λ mode. is_at_least (stands s) mode ≡ true) (s.mode ∷ s.granted)
as-listed {lossy} s stage is = subst (λ (t : Mode). Covered t (s.mode ∷ s.granted)) (sym is) (covered s stage (λ never. absurd never))

-- what a node stands for covers what it holds and is granted
pub stands-covered : {lossy early : Type 0} (s : Sight) → Stage lossy early s → AllByRecursion (λ mode. is_at_least (stands s) mode ≡ true) (s.mode ∷ s.granted)
stands-covered {lossy} {early} s (Untaken o taken member ended table coming waits granted) =
    (ap (λ (t : Mode). is_at_least t s.mode) (by-taken s false [] taken coming) ∙ covers-itself s.mode, subst (Covered (stands s)) (sym granted) tt)
stands-covered {lossy} {early} s (WillReport o taken member ended table m q coming leads waits granted) =
    (ap (λ (t : Mode). is_at_least t s.mode) (by-taken s true (Reports m ∷ q) taken coming) ∙ leads-covers s.wanted m s.mode q leads, subst (Covered (stands s)) (sym granted) tt)
stands-covered {lossy} {early} s (Tells taken leads waits granted) = as-listed {lossy = lossy} s (Tells taken leads waits granted) (by-taken s true s.coming taken refl ∙ leads-stands s.wanted s.table s.table s.mode s.mode s.coming leads)
stands-covered {lossy} {early} s (Waits taken m wanted coming table covers waits granted) = as-listed {lossy = lossy} s (Waits taken m wanted coming table covers waits granted) (by-taken s true [] taken coming)
stands-covered {lossy} {early} s (Receives taken m wanted coming table covers waits granted) = as-listed {lossy = lossy} s (Receives taken m wanted coming table covers waits granted) (by-taken s true [] taken coming)
stands-covered {lossy} {early} s (Dropped may taken m wanted coming covers waits granted) = as-listed {lossy = lossy} s (Dropped may taken m wanted coming covers waits granted) (by-taken s true [] taken coming)

-- once each member has ended, none is to report
pub closes : {lossy early : Type 0} (s : Sight) → Stage lossy early s → (s.member ≡ true → s.ended ≡ true) → (never : Type 0) → Stage lossy never s
closes {lossy} {early} s (Untaken o taken member ended table coming waits granted) all never = not-both (all member) ended
closes {lossy} {early} s (WillReport o taken member ended table m q coming leads waits granted) all never = not-both (all member) ended
closes {lossy} {early} s (Tells taken leads waits granted) all never = Tells taken leads waits granted
closes {lossy} {early} s (Waits taken m wanted coming table covers waits granted) all never = Waits taken m wanted coming table covers waits granted
closes {lossy} {early} s (Receives taken m wanted coming table covers waits granted) all never = Receives taken m wanted coming table covers waits granted
closes {lossy} {early} s (Dropped may taken m wanted coming covers waits granted) all never = Dropped may taken m wanted coming covers waits granted

leads-exact : (t h : Mode) (asked : Option Mode) → Leads asked t [] h → t ≡ h
leads-exact t h asked l = l.1

pub exact : {lossy early : Type 0} (s : Sight) → Stage lossy early s → (early → s.ended ≡ true) → s.wanted ≡ None → s.coming ≡ [] → s.table ≡ s.mode
exact {lossy} {early} s (Untaken o taken member ended table coming waits granted) told none empty = not-both (told o) ended
exact {lossy} {early} s (WillReport o taken member ended table m q coming leads waits granted) told none empty = not-both (told o) ended
exact {lossy} {early} s (Tells taken leads waits granted) told none empty = leads-exact s.table s.mode s.wanted (subst (λ (cs : List Tell). Leads s.wanted s.table cs s.mode) empty leads)
exact {lossy} {early} s (Waits taken m wanted coming table covers waits granted) told none empty = some-none (sym none ∙ wanted)
exact {lossy} {early} s (Receives taken m wanted coming table covers waits granted) told none empty = some-none (sym none ∙ wanted)
exact {lossy} {early} s (Dropped may taken m wanted coming covers waits granted) told none empty = some-none (sym none ∙ wanted)
