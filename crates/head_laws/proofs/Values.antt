-- The number that the items tell of a life, as a function of its items, its base and its head.
use Rattle.std.proofs.Common.{ℕ, ◌≡◌, ◌<◌, ◌≤◌, ◌+◌, ◌-◌, inl, inr, Bool, true, false, cond, Option, None, Some, List, [], ◌∷◌, ◌++◌, length, take, drop, refl, sym, ap, ◌∙◌, subst, arith, append-nil, length-drop}
use Rattle.std.specs.Prelude.{◌==◌, ◌&&◌, ⊤, nat_lt}
use Rattle.std.proofs.lemmas.Bool.Decides.{eqb_tells}
use Rattle.std.proofs.lemmas.List.{take-append-le}
use Rattle.trace_text.specs.declared.item.TraceItem.{TraceItem}
use Rattle.trace_text.specs.declared.item.TraceItem.TheVariants as trace
use Rattle.run_rules.specs.Lives.{Life, AcceptedHead, last_number, to_its_end, fenced_behind, head_behind, recovered_behind, or_else, named, Unnamed, unnamed, upto_by, upto_of}
use Rattle.head_laws.specs.Journals.{DoesNothing}
use Rattle.head_laws.specs.Laws.{with_head}
use Rattle.head_laws.proofs.Items.{eqb-other, first_of_two, ended, end-closed, end-open, fence-on, rest-on}

-- ---- a life among the items

abbrev pub rest : Life → List TraceItem → List TraceItem
rest l items = drop (l.join + 1) items

abbrev pub mine : ℕ → Life → List TraceItem → List TraceItem
mine i l items = to_its_end i (rest l items)

abbrev pub base : ℕ → Life → List TraceItem → ℕ
base i l items = last_number i 0 (take l.join items)

abbrev pub fence : ℕ → Life → List TraceItem → Option ℕ
fence i l items = fenced_behind i (l.join + 1) (rest l items)

-- from where on headers are its own
abbrev pub own_place : ℕ → Life → List TraceItem → ℕ
own_place i l items = or_else (recovered_behind i (l.join + 1) (mine i l items)) l.join

-- the sequence that the disk's head had there
abbrev pub first : ℕ → (ℕ → AcceptedHead) → Life → List TraceItem → ℕ
first i behind l items = (behind (own_place i l items)).sequence

-- ---- the number

-- the head is one of this life's own, by its sequence
abbrev pub own : ℕ → AcceptedHead → Bool
own sq h = nat_lt sq h.sequence

abbrev pub quiet_value : ℕ → List TraceItem → ℕ → ℕ → Bool → ℕ
quiet_value i es b last clean = cond clean last (unnamed i (record { upto = b; is_logged = false; last = b }) es)

abbrev pub value_by : Option ℕ → Bool → ℕ → ℕ → ℕ
value_by (Some u) is_own quiet b = u
value_by None is_own quiet b = cond is_own quiet b

abbrev pub value_of : ℕ → ℕ → List TraceItem → ℕ → ℕ → AcceptedHead → ℕ
value_of sq i es b last h = value_by (named i h es) (own sq h) (quiet_value i es b last h.is_clean) b

abbrev pub kept_head : (ℕ → AcceptedHead) → Option ℕ → AcceptedHead → AcceptedHead
kept_head behind (Some p) h = behind p
kept_head behind None h = h

abbrev pub value : ℕ → (ℕ → AcceptedHead) → Life → List TraceItem → AcceptedHead → ℕ
value i behind l items h = value_of (first i behind l items) i (mine i l items) (base i l items) (last_number i 0 items) (kept_head behind (fence i l items) h)

by-is : (o : Option ℕ) (behind : ℕ → ℕ → AcceptedHead) (h k : AcceptedHead) (l : Life) (items : List TraceItem)
    → upto_by o k (with_head behind h) l items
    ≡ value_by o (own (first l.node (behind l.node) l items) k) (quiet_value l.node (mine l.node l items) (base l.node l items) (last_number l.node 0 items) k.is_clean) (base l.node l items)
by-is (Some u) behind h k l items = refl
by-is None behind h k l items = refl

head-is : (o : Option ℕ) (behind : ℕ → ℕ → AcceptedHead) (h : AcceptedHead) (i : ℕ) → head_behind o (with_head behind h) i ≡ kept_head (behind i) o h
head-is (Some p) behind h i = refl
head-is None behind h i = refl

pub value-is : (i : ℕ) (behind : ℕ → ℕ → AcceptedHead) (l : Life) (items : List TraceItem) (h : AcceptedHead) → l.node ≡ i → upto_of (with_head behind h) l items ≡ value i (behind i) l items h
value-is i behind l items h e = subst (λ (k : ℕ). upto_of (with_head behind h) l items ≡ value k (behind k) l items h) e
    (by-is (named l.node (head_behind (fence l.node l items) (with_head behind h) l.node) (mine l.node l items)) behind h (head_behind (fence l.node l items) (with_head behind h) l.node) l items
    ∙ ap (value_of (first l.node (behind l.node) l items) l.node (mine l.node l items) (base l.node l items) (last_number l.node 0 items)) (head-is (fence l.node l items) behind h l.node))

-- ---- where items come

pub fence-more : (i : ℕ) (l : Life) (xs ys : List TraceItem) → l.join < length xs → fence i l (xs ++ ys) ≡ first_of_two (fence i l xs) (fenced_behind i (length xs) ys)
fence-more i l xs ys within =
    ap (fenced_behind i (l.join + 1)) (rest-on l xs ys within)
    ∙ fence-on i (l.join + 1) (length xs) (rest l xs) ys (let e : length (rest l xs) ≡ length xs - (l.join + 1) = length-drop (l.join + 1) xs in omega (arith, e))

pub mine-closed : (i : ℕ) (l : Life) (xs ys : List TraceItem) → l.join < length xs → ended i (rest l xs) ≡ true → mine i l (xs ++ ys) ≡ mine i l xs
mine-closed i l xs ys within e = ap (to_its_end i) (rest-on l xs ys within) ∙ end-closed i (rest l xs) ys e

pub mine-open : (i : ℕ) (l : Life) (xs : List TraceItem) → ended i (rest l xs) ≡ false → mine i l xs ≡ rest l xs
mine-open i l xs e =
    ap (to_its_end i) (sym (append-nil (rest l xs))) ∙ (end-open i (rest l xs) [] e ∙ append-nil (rest l xs))

-- of a life that ended, where the number of the node's last call stays, only its fence may change
pub closed-value : (i : ℕ) (behind : ℕ → AcceptedHead) (l : Life) (xs ys : List TraceItem) (h : AcceptedHead) → l.join < length xs → ended i (rest l xs) ≡ true
    → last_number i 0 (xs ++ ys) ≡ last_number i 0 xs
    → value i behind l (xs ++ ys) h ≡ value_of (first i behind l xs) i (mine i l xs) (base i l xs) (last_number i 0 xs) (kept_head behind (fence i l (xs ++ ys)) h)
closed-value i behind l xs ys h within e last t =
    value_of (behind (or_else (recovered_behind i (l.join + 1) (mine-closed i l xs ys within e t)) l.join)).sequence i (mine-closed i l xs ys within e t) (last_number i 0 (take-same t)) (last t) (kept_head behind (fence i l (xs ++ ys)) h)
  where
    take-same : take l.join (xs ++ ys) ≡ take l.join xs
    take-same = take-append-le l.join xs ys (omega arith)

-- ---- heads that are told by an item, or aren't of this life

pub data Stable (sq i : ℕ) (es : List TraceItem) (h : AcceptedHead) : Type 0 where
  ByItem : (u : ℕ) → named i h es ≡ Some u → Stable sq i es h
  NotOwn : own sq h ≡ false → Stable sq i es h

-- such a head's number doesn't depend on the rest
pub stable-value : (sq i : ℕ) (es fs : List TraceItem) (b last next : ℕ) (h : AcceptedHead) → Stable sq i es h → named i h fs ≡ named i h es → value_of sq i fs b next h ≡ value_of sq i es b last h
stable-value sq i es fs b last next h (ByItem u e) same =
    ap (λ (o : Option ℕ). value_by o (own sq h) (quiet_value i fs b next h.is_clean) b) (same ∙ e)
    ∙ sym (ap (λ (o : Option ℕ). value_by o (own sq h) (quiet_value i es b last h.is_clean) b) e)
stable-value sq i es fs b last next h (NotOwn e) same =
    ap (λ (o : Option ℕ). value_by o (own sq h) (quiet_value i fs b next h.is_clean) b) same
    ∙ (ap (λ (t : Bool). value_by (named i h es) t (quiet_value i fs b next h.is_clean) b) e
    ∙ (by (named i h es) ∙ sym (ap (λ (t : Bool). value_by (named i h es) t (quiet_value i es b last h.is_clean) b) e)))
  where
    by : (o : Option ℕ) → value_by o false (quiet_value i fs b next h.is_clean) b ≡ value_by o false (quiet_value i es b last h.is_clean) b
    by (Some u) = refl
    by None = refl

pub stable-on : (sq i : ℕ) (es fs : List TraceItem) (h : AcceptedHead) → Stable sq i es h → named i h fs ≡ named i h es → Stable sq i fs h
stable-on sq i es fs h (ByItem u e) same = ByItem u (same ∙ e)
stable-on sq i es fs h (NotOwn e) same = NotOwn e

-- and of each head where nothing of it has changed
pub same-value : (sq i : ℕ) (es fs : List TraceItem) (b last next : ℕ) (h : AcceptedHead) → named i h fs ≡ named i h es
    → quiet_value i fs b next h.is_clean ≡ quiet_value i es b last h.is_clean → value_of sq i fs b next h ≡ value_of sq i es b last h
same-value sq i es fs b last next h n q t = value_by (n t) (own sq h) (q t) b

-- ---- headers among the items

-- no header of the node has a sequence above this
abbrev pub HeadsWithin : ℕ → ℕ → List TraceItem → Type 0
HeadsWithin i q [] = ⊤
HeadsWithin i q (trace.WriteHead k block sequence upto ∷ is) = (k ≡ i → sequence ≤ q) × HeadsWithin i q is
HeadsWithin i q (trace.WriteClean k block sequence upto ∷ is) = (k ≡ i → sequence ≤ q) × HeadsWithin i q is
HeadsWithin i q (x ∷ is) = HeadsWithin i q is

pub within-none : (i q : ℕ) (is : List TraceItem) → DoesNothing i is → HeadsWithin i q is
within-none i q [] none = tt
within-none i q (trace.Call k name number call reply ∷ is) none = within-none i q is none.1
within-none i q (trace.WriteHead k block sequence upto ∷ is) none = ((λ e. absurd (none.0 e)), within-none i q is none.1)
within-none i q (trace.WriteClean k block sequence upto ∷ is) none = ((λ e. absurd (none.0 e)), within-none i q is none.1)
within-none i q (x ∷ is) none = within-none i q is none

pub within-more : (i q r : ℕ) (is : List TraceItem) → q ≤ r → HeadsWithin i q is → HeadsWithin i r is
within-more i q r [] le all = tt
within-more i q r (trace.WriteHead k block sequence upto ∷ is) le all = ((λ e. let h : sequence ≤ q = all.0 e in omega arith), within-more i q r is le all.1)
within-more i q r (trace.WriteClean k block sequence upto ∷ is) le all = ((λ e. let h : sequence ≤ q = all.0 e in omega arith), within-more i q r is le all.1)
within-more i q r (x ∷ is) le all = within-more i q r is le all

pub within-on : (i q : ℕ) (xs ys : List TraceItem) → HeadsWithin i q xs → HeadsWithin i q ys → HeadsWithin i q (xs ++ ys)
within-on i q [] ys all more = more
within-on i q (trace.WriteHead k block sequence upto ∷ xs) ys all more = (all.0, within-on i q xs ys all.1 more)
within-on i q (trace.WriteClean k block sequence upto ∷ xs) ys all more = (all.0, within-on i q xs ys all.1 more)
within-on i q (x ∷ xs) ys all more = within-on i q xs ys all more

pub none-on : (i : ℕ) (xs ys : List TraceItem) → DoesNothing i xs → DoesNothing i ys → DoesNothing i (xs ++ ys)
none-on i [] ys all more = more
none-on i (trace.Call k name number call reply ∷ xs) ys all more = (all.0, none-on i xs ys all.1 more)
none-on i (trace.WriteHead k block sequence upto ∷ xs) ys all more = (all.0, none-on i xs ys all.1 more)
none-on i (trace.WriteClean k block sequence upto ∷ xs) ys all more = (all.0, none-on i xs ys all.1 more)
none-on i (x ∷ xs) ys all more = none-on i xs ys all more

-- a header with a later sequence is none of these
not-named : (i q k block sequence : ℕ) (h : AcceptedHead) → (k ≡ i → sequence ≤ q) → q < h.sequence → ((k == i) && ((block == h.block) && (sequence == h.sequence))) ≡ false
not-named i q k block sequence h low later = elim (eqb_tells k i) [
  | inr ne ↦ ap (λ (b : Bool). b && ((block == h.block) && (sequence == h.sequence))) ne.0
  | inl is ↦ ap (λ (b : Bool). b && ((block == h.block) && (sequence == h.sequence))) is.0
      ∙ (ap (λ (b : Bool). (block == h.block) && b) (eqb-other sequence h.sequence (λ e. let s : sequence ≤ q = low is.1 in absurd (omega (arith, e)))) ∙ and-false (block == h.block))
]
  where
    and-false : (b : Bool) → (b && false) ≡ false
    and-false true = refl
    and-false false = refl

pub named-none : (i q : ℕ) (h : AcceptedHead) (is : List TraceItem) → HeadsWithin i q is → q < h.sequence → named i h is ≡ None
named-none i q h [] all later = refl
named-none i q h (trace.WriteHead k block sequence upto ∷ is) all later = rw (not-named i q k block sequence h all.0 later) (named-none i q h is all.1 later)
named-none i q h (trace.WriteClean k block sequence upto ∷ is) all later = rw (not-named i q k block sequence h all.0 later) (named-none i q h is all.1 later)
named-none i q h (x ∷ is) all later = named-none i q h is all later

pub none-named : (i : ℕ) (h : AcceptedHead) (is : List TraceItem) → DoesNothing i is → named i h is ≡ None
none-named i h [] all = refl
none-named i h (trace.Call k name number call reply ∷ is) all = none-named i h is all.1
none-named i h (trace.WriteHead k block sequence upto ∷ is) all = rw (eqb-other k i all.0) (none-named i h is all.1)
none-named i h (trace.WriteClean k block sequence upto ∷ is) all = rw (eqb-other k i all.0) (none-named i h is all.1)
none-named i h (x ∷ is) all = none-named i h is all

abbrev idle_note : ℕ → Bool → Unnamed
idle_note b logged = record { upto = b; is_logged = logged; last = b }

-- what an unnamed header has where the node does nothing
idle-unnamed : (i b : ℕ) (logged : Bool) (is : List TraceItem) → DoesNothing i is → unnamed i (idle_note b logged) is ≡ b
idle-unnamed i b logged [] idle = refl
idle-unnamed i b logged (trace.Call k name number call reply ∷ is) idle = rw (eqb-other k i idle.0) (idle-unnamed i b logged is idle.1)
idle-unnamed i b logged (trace.WriteHead k block sequence upto ∷ is) idle = rw (eqb-other k i idle.0) (idle-unnamed i b logged is idle.1)
idle-unnamed i b logged (trace.WriteClean k block sequence upto ∷ is) idle = idle-unnamed i b logged is idle.1
idle-unnamed i b logged (trace.WriteLog k block ∷ is) idle = by (k == i) logged (idle-unnamed i b true is idle) (idle-unnamed i b false is idle)
  where
    by : (t l : Bool) → unnamed i (idle_note b true) is ≡ b → unnamed i (idle_note b false) is ≡ b → unnamed i (cond t (cond l (idle_note b l) (idle_note b true)) (idle_note b l)) is ≡ b
    by true true logged fresh = logged
    by true false logged fresh = logged
    by false true logged fresh = logged
    by false false logged fresh = fresh
idle-unnamed i b logged (x ∷ is) idle = idle-unnamed i b logged is idle

-- of a life in which the node did nothing, the number of each head is that of the node's last call
pub waiting-value : (sq i : ℕ) (es : List TraceItem) (b last : ℕ) (h : AcceptedHead) → DoesNothing i es → b ≡ last → value_of sq i es b last h ≡ last
waiting-value sq i es b last h idle same =
    ap (λ (o : Option ℕ). value_by o (own sq h) (quiet_value i es b last h.is_clean) b) (none-named i h es idle) ∙ by (own sq h) h.is_clean
  where
    by : (t clean : Bool) → cond t (cond clean last (unnamed i (record { upto = b; is_logged = false; last = b }) es)) b ≡ last
    by true true = refl
    by true false = idle-unnamed i b false es idle ∙ same
    by false clean = same
