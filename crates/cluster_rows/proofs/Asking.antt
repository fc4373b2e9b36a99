-- A grant under way is of the state that the node last asked for.
use Rattle.std.proofs.Common.{ℕ, ◌≡◌, ◌⊎◌, inl, inr, true, false, Option, None, Some, List, [], ◌∷◌, ◌++◌, refl, sym, ap, ◌∙◌, subst}
use Rattle.std.proofs.lemmas.Bool.{cases_eq}
use Rattle.cluster_laws.specs.Files.{Files, State}
use Rattle.cluster_laws.specs.Book.{at}
use Rattle.cluster_laws.proofs.Cells.{none-some, inside, at-same, at-other, at-cases}
use Rattle.lock_laws.specs.Lock.{Node, Message, Report, End, Lowered, Asked, has_ask, anew}
use Rattle.lock_laws.specs.Lock as lock
use Rattle.cluster_events.specs.Cluster.{Cluster, Sends, Rests, OfOne, Granted, Receives, NoGrant, Takes, Weakens, Keeps, GoesTo, Together, Starts, Event, Works, Mails, IsGranted, GoesDown, Stops, Fences, Views, Joins, Recovers, PastEnds, Events, Done, Then}
use Rattle.cluster_events.proofs.Eventing.{event_keeps, starts_together}
use Rattle.cluster_rows.specs.Asks.{asked_in, asked, asks_of, GrantsAreAsked}

-- an ask for the state is under way
abbrev IsAsked : List Message → State → Type 0
IsAsked [] s = ⊥
IsAsked (Asked t ∷ q) s = (t ≡ s) ⊎ IsAsked q s
IsAsked (Report t ∷ q) s = IsAsked q s
IsAsked (Lowered t ∷ q) s = IsAsked q s
IsAsked (End ∷ q) s = IsAsked q s

no-ask : (q : List Message) (s : State) → has_ask q ≡ false → IsAsked q s → ⊥
no-ask [] s e h = h
no-ask (Asked t ∷ q) s e h = let f : true ≡ false = e in cc
no-ask (Report t ∷ q) s e h = no-ask q s e h
no-ask (Lowered t ∷ q) s e h = no-ask q s e h
no-ask (End ∷ q) s e h = no-ask q s e h

after-lowered : (q : List Message) (t s : State) → IsAsked (q ++ (Lowered t ∷ [])) s → IsAsked q s
after-lowered [] t s h = h
after-lowered (Asked u ∷ q) t s (inl e) = inl e
after-lowered (Asked u ∷ q) t s (inr h) = inr (after-lowered q t s h)
after-lowered (Report u ∷ q) t s h = after-lowered q t s h
after-lowered (Lowered u ∷ q) t s h = after-lowered q t s h
after-lowered (End ∷ q) t s h = after-lowered q t s h

after-asked : (q : List Message) (t s : State) → IsAsked (q ++ (Asked t ∷ [])) s → IsAsked q s ⊎ (t ≡ s)
after-asked [] t s (inl e) = inr e
after-asked [] t s (inr h) = absurd h
after-asked (Asked u ∷ q) t s (inl e) = inl (inl e)
after-asked (Asked u ∷ q) t s (inr h) = elim (after-asked q t s h) [ inl old ↦ inl (inr old) | inr new ↦ inr new ]
after-asked (Report u ∷ q) t s h = after-asked q t s h
after-asked (Lowered u ∷ q) t s h = after-asked q t s h
after-asked (End ∷ q) t s h = after-asked q t s h

-- all that is said of an ask, from the node to its grant, is of the last one
record Fits (n : Node) (a : Option State) : Type 0 where
  up : (s : State) → IsAsked (n.up) s → a ≡ Some s
  wants : (s : State) → n.wants ≡ Some s → a ≡ Some s
  down : (s : State) → n.down ≡ Some s → a ≡ Some s

-- where nothing new is said
less : (n m : Node) (a : Option State) → ((s : State) → IsAsked (m.up) s → IsAsked (n.up) s) → ((s : State) → m.wants ≡ Some s → n.wants ≡ Some s)
    → ((s : State) → m.down ≡ Some s → n.down ≡ Some s) → Fits n a → Fits m a
less n m a up wants down f = record { up = λ s h. f.up s (up s h); wants = λ s h. f.wants s (wants s h); down = λ s h. f.down s (down s h) }

same-said : (n m : Node) (a : Option State) → m.up ≡ n.up → m.wants ≡ n.wants → m.down ≡ n.down → Fits n a → Fits m a
same-said n m a up wants down f = less n m a (λ s h. subst (λ q. IsAsked q s) up h) (λ s h. sym wants ∙ h) (λ s h. sym down ∙ h) f

at-fits : (l : ℕ → Node) (asks : ℕ → Option State) (k : ℕ) (n : Node) → ((i : ℕ) → Fits (l i) (asks i)) → Fits n (asks k) → (i : ℕ) → Fits (at l k n i) (asks i)
at-fits l asks k n old new i = at-cases (λ z. Fits z (asks i)) l k n i (λ e. subst (λ z. Fits n (asks z)) (sym e) new) (λ ne. old i)

sends : (l m : ℕ → Node) (asks : ℕ → Option State) → lock.Sound l → (h : Sends l m) → ((i : ℕ) → Fits (l i) (asks i)) → (i : ℕ) → Fits (m i) (asked_in l m h asks i)
sends l _ asks sound Rests old i = old i
sends l _ asks sound (OfOne k _ (lock.Asks s member fresh taken waits un free) state slot same) old i = elim (cases_eq i k) [
  | inl e ↦ subst (λ z. Fits (at l k (record (l k) { asked = true; up = (l k).up ++ (Asked s ∷ []) }) z) (at asks k (Some s) z)) (sym e)
      (subst (λ z. Fits z (at asks k (Some s) k)) (sym (at-same l k _)) (subst (λ z. Fits (record (l k) { asked = true; up = (l k).up ++ (Asked s ∷ []) }) z) (sym (at-same asks k (Some s))) new))
  | inr ne ↦ subst (λ z. Fits z (at asks k (Some s) i)) (sym (at-other l k _ i ne)) (subst (λ z. Fits (l i) z) (sym (at-other asks k (Some s) i ne)) (old i))
]
  where
    idle : (has_ask ((l k).up) ≡ false) × ((l k).wants ≡ None) × ((l k).down ≡ None)
    idle = (sound.fine k).idle free fresh

    new : Fits (record (l k) { asked = true; up = (l k).up ++ (Asked s ∷ []) }) (Some s)
    new = record {
      up = λ t h. elim (after-asked ((l k).up) s t h) [ inl was ↦ absurd (no-ask ((l k).up) t (idle.0) was) | inr e ↦ ap (λ z. Some z) e ];
      wants = λ t h. absurd (none-some (idle.1) h);
      down = λ t h. absurd (none-some (idle.2) h);
    }
sends l _ asks sound (OfOne k _ (lock.HearsReport s q e) state slot same) old i =
    at-fits l asks k _ old (less (l k) _ (asks k) (λ t h. subst (λ z. IsAsked z t) (sym e) h) (λ t h. h) (λ t h. h) (old k)) i
sends l _ asks sound (OfOne k _ (lock.HearsEnd q e) state slot same) old i =
    at-fits l asks k _ old (less (l k) _ (asks k) (λ t h. subst (λ z. IsAsked z t) (sym e) h) (λ t h. h) (λ t h. h) (old k)) i
sends l _ asks sound (OfOne k _ (lock.HearsDown s q e) state slot same) old i =
    at-fits l asks k _ old (less (l k) _ (asks k) (λ t h. subst (λ z. IsAsked z t) (sym e) h) (λ t h. h) (λ t h. h) (old k)) i
sends l _ asks sound (OfOne k _ (lock.HearsAsk s q e) state slot same) old i = at-fits l asks k _ old (record {
  up = λ t h. (old k).up t (subst (λ z. IsAsked z t) (sym e) (inr h));
  wants = λ t h. (old k).up t (subst (λ z. IsAsked z t) (sym e) (inl (inside h)));
  down = (old k).down;
}) i
sends l _ asks sound (OfOne k _ (lock.Receives s d m f w) state slot same) old i = at-fits l asks k _ old (less (l k) _ (asks k) (λ t h. h) (λ t h. h) (λ t h. absurd (none-some refl h)) (old k)) i
sends l _ asks sound (OfOne k _ (lock.Drops s d) state slot same) old i = at-fits l asks k _ old (less (l k) _ (asks k) (λ t h. h) (λ t h. h) (λ t h. absurd (none-some refl h)) (old k)) i
sends l _ asks sound (OfOne k _ (lock.Lowers s m f t w le un) state slot same) old i =
    at-fits l asks k _ old (less (l k) _ (asks k) (λ u h. after-lowered ((l k).up) s u h) (λ u h. h) (λ u h. h) (old k)) i
sends l _ asks sound (OfOne k _ (lock.TakesView m r n) state slot same) old i = at-fits l asks k _ old (less (l k) _ (asks k) (λ t h. absurd h) (λ t h. h) (λ t h. h) (old k)) i
sends l _ asks sound (OfOne k _ lock.Stops state slot same) old i = at-fits l asks k _ old (less (l k) _ (asks k) (λ t h. h) (λ t h. h) (λ t h. h) (old k)) i
sends l _ asks sound (OfOne k _ (lock.IsRecovered w) state slot same) old i = at-fits l asks k _ old (less (l k) _ (asks k) (λ t h. h) (λ t h. h) (λ t h. h) (old k)) i
sends l _ asks sound (OfOne k _ (lock.Joins m) state slot same) old i = at-fits l asks k _ old (less (l k) _ (asks k) (λ t h. h) (λ t h. h) (λ t h. h) (old k)) i
sends l _ asks sound (Granted k s ready runs wants all) old i = at-fits l asks k _ old (record {
  up = (old k).up;
  wants = λ t h. absurd (none-some refl h);
  down = λ t h. (old k).wants t (wants ∙ h);
}) i

receives : (k : ℕ) (l m : ℕ → Node) (asks : ℕ → Option State) → Receives k l m → ((i : ℕ) → Fits (l i) (asks i)) → (i : ℕ) → Fits (m i) (asks i)
receives k l _ asks NoGrant old i = old i
receives k l _ asks (Takes s d member fresh runs) old i = at-fits l asks k _ old (less (l k) _ (asks k) (λ t h. h) (λ t h. h) (λ t h. absurd (none-some refl h)) (old k)) i

weakens : (k : ℕ) (l m : ℕ → Node) (asks : ℕ → Option State) → Weakens k l m → ((i : ℕ) → Fits (l i) (asks i)) → (i : ℕ) → Fits (m i) (asks i)
weakens k l _ asks Keeps old i = old i
weakens k l _ asks (GoesTo s member fresh taken runs low held other) old i =
    at-fits l asks k _ old (less (l k) _ (asks k) (λ u h. after-lowered ((l k).up) s u h) (λ u h. h) (λ u h. h) (old k)) i

module _ (F : Files) where
  AllFit : Cluster F → (F.Lock → ℕ → Option State) → Type 0
  AllFit c asks = (l : F.Lock) (i : ℕ) → Fits (c.locks l i) (asks l i)

  keeps : (c c' : Cluster F) (event : Event F c c') (asks : F.Lock → ℕ → Option State) → Together F c → AllFit c asks → AllFit c' (asked F c c' event asks)
  unfolding AllFit
  keeps c _ (Works v step may) asks t old = old
  keeps c _ (Mails locks h) asks t old = λ l. sends (c.locks l) (locks l) (asks l) (t.locks l) (h l) (old l)
  keeps c _ (IsGranted k locks here none h) asks t old = λ l. receives k (c.locks l) (locks l) (asks l) (h l) (old l)
  keeps c _ (GoesDown k locks cache here h all clean cached) asks t old = λ l. weakens k (c.locks l) (locks l) (asks l) (h l) (old l)
  keeps c _ (Stops k here runs all) asks t old = λ l. at-fits (c.locks l) (asks l) k _ (old l) (less (c.locks l k) _ (asks l k) (λ s h. h) (λ s h. h) (λ s h. h) (old l k))
  keeps c _ (Fences k out unfenced none) asks t old = old
  keeps c _ Views asks t old = λ l i. less (c.locks l i) _ (asks l i) (λ s h. absurd h) (λ s h. absurd (none-some refl h)) (λ s h. absurd (none-some refl h)) (old l i)
  keeps c _ (Joins k here out fenced waits) asks t old = λ l. at-fits (c.locks l) (asks l) k _ (old l) (less (c.locks l k) _ (asks l k) (λ s h. h) (λ s h. h) (λ s h. h) (old l k))
  keeps c _ (Recovers k here wait nothing_left unheaded told) asks t old = λ l. at-fits (c.locks l) (asks l) k _ (old l)
      (less (c.locks l k) _ (asks l k) (λ s h. h) (λ s h. h) (λ s h. h) (old l k))
  keeps c _ (PastEnds wait nothing_left unheaded) asks t old = λ l. at-fits (c.locks l) (asks l) (c.past) _ (old l)
      (less (c.locks l (c.past)) _ (asks l (c.past)) (λ s h. h) (λ s h. h) (λ s h. h) (old l (c.past)))

  run : (a c : Cluster F) (events : Events F a c) (asks : F.Lock → ℕ → Option State) → Together F a → AllFit a asks → AllFit c (asks_of F a c events asks)
  run a _ (Done _) asks t old = old
  run a c (Then _ b _ event events) asks t old = run b c events (asked F a b event asks) (event_keeps F a b event t) (keeps a b event asks t old)

  begins : (a : Cluster F) → Starts F a → AllFit a (λ l k. None)
  unfolding AllFit
  begins a s l i = subst (λ z. Fits z None) (sym (s.locks l i)) (record { up = λ t h. absurd h; wants = λ t h. absurd (none-some refl h); down = λ t h. absurd (none-some refl h) })

  pub grants_asked : GrantsAreAsked F
  unfolding AllFit
  grants_asked a c events l i s starts down = (run a c events (λ l k. None) (starts_together F a starts) (begins a starts) l i).down s down
