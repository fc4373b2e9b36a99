-- Items that come while a node's lives go on: of something else, of the log, of recoveries, of calls and of headers.
use Rattle.std.proofs.Common.{ℕ, suc, ◌≡◌, ◌<◌, ◌≤◌, ◌+◌, ◌⊎◌, inl, inr, Bool, true, false, cond, Option, None, Some, List, [], ◌∷◌, ◌++◌, length, refl, sym, ap, ◌∙◌, subst, arith, append-nil}
use Rattle.std.specs.Prelude.{◌==◌, ◌&&◌}
use Rattle.std.proofs.lemmas.Bool.{lt-ltb}
use Rattle.trace_text.specs.declared.item.TraceItem.{TraceItem}
use Rattle.trace_text.specs.declared.item.TraceItem.TheVariants as trace
use Rattle.file_tree.specs.declared.call.Call.{Call}
use Rattle.file_tree.specs.declared.reply.Reply.{Reply}
use Rattle.run_rules.specs.Lives.{Life, AcceptedHead, last_number, named, unnamed, Unnamed, lives_of, life_at}
use Rattle.cluster_laws.specs.Mirror.{either}
use Rattle.head_laws.specs.Journals.{DoesNothing, Journal, present, head_item, unnamed_upto, IsOther}
use Rattle.head_laws.proofs.Items.{true-false, eqb-other, eqb-self, first_of_two, named-on, last-on, noted, rest-on, plain}
use Rattle.head_laws.proofs.Values.{rest, mine, base, first, own, quiet_value, value_by, value, ByItem, HeadsWithin, within-none, within-more, within-on, named-none, mine-open}
use Rattle.head_laws.proofs.Goods.{Acting, Open, Inv, open-runs, none-closed}
use Rattle.head_laws.proofs.Growing.{Keeps, Still, plain-still, losses-same, life-same, count-same, longer, going-on, fence-same, first-same, closed-on, open-value, open-value-on, named-same, stable-more, stable-told, waiting-on, acting-on, quiet-on}

inside : {A : Type 0} {a b : A} → Some a ≡ Some b → a ≡ b
inside e = cc

-- ---- an item that changes nothing of the journal

module _ (i : ℕ) (behind : ℕ → AcceptedHead) (j : Journal) (items : List TraceItem) (x : TraceItem) (still : Still i x) (last : (m : ℕ) → last_number i m (x ∷ []) ≡ m) where
  pub last-same : last_number i 0 (items ++ x ∷ []) ≡ last_number i 0 items
  last-same = last-on i 0 items (x ∷ []) ∙ last (last_number i 0 items)

  pub inv-on : ((n : ℕ) (l : Life) → life_at i n (lives_of items) ≡ Some l → l.join < length items → l.node ≡ i → Open i behind j items l → Open i behind j (items ++ x ∷ []) l)
      → Inv i behind j items → Inv i behind j (items ++ x ∷ [])
  inv-on opens inv = record {
    number = last-same ∙ inv.number;
    count = count-same i items x still.keeps ∙ (inv.count ∙ ap (λ (m : ℕ). m + (j.unlost + cond j.runs 1 0)) (sym (losses-same i items x still.losses)));
    settled = inv.settled;
    single = inv.single;
    others = inv.others;
    even = inv.even;
    silent = inv.silent;
    lives = λ n l is low.
        let same = losses-same i items x still.losses in
        let old : life_at i n (lives_of items) ≡ Some l = sym (life-same i items x still.keeps n) ∙ is in
        let g = inv.lives n l old (omega (arith, low, same)) in
        record {
          node = g.node;
          within = longer items x l.join g.within;
          closed = λ h. closed-on i behind l items x g.within j n still.fence same last-same (g.closed (omega (arith, h, same)));
          present = λ h. opens n l old g.within g.node (g.present (omega (arith, h, same)));
        };
  }

module _ (i : ℕ) (behind : ℕ → AcceptedHead) (j : Journal) (l : Life) (items : List TraceItem) (x : TraceItem) (within : l.join < length items) (still : Still i x)
    (unnamed-by : (d : Bool) → named i (j.name d) (x ∷ []) ≡ None) (idle : DoesNothing i (x ∷ [])) where
  pub open-on : (Open i behind j items l → j.silent ≡ true → value i behind l (items ++ x ∷ []) (j.name true) ≡ value i behind l items (j.name true)) → Open i behind j items l → Open i behind j (items ++ x ∷ []) l
  open-on quiet o = record {
    going = going-on i behind l items x within o.going still.ended;
    unfenced = fence-same i behind l items x within still.fence ∙ o.unfenced;
    waiting = λ w. waiting-on i behind l items x within j idle (o.waiting w);
    acting = λ a. acting-on i behind l items x within j o.going o.unfenced still unnamed-by (within-none i (j.name true).sequence (x ∷ []) idle) (quiet o) (o.acting a);
  }

pub other-idle : (i : ℕ) (x : TraceItem) → IsOther i x → DoesNothing i (x ∷ [])
other-idle i (trace.WriteHead k block sequence upto) o = (o, tt)
other-idle i (trace.WriteClean k block sequence upto) o = (o, tt)
other-idle i (trace.Call k name number call reply) o = (o, tt)
other-idle i x o = tt

pub says : (i : ℕ) (behind : ℕ → AcceptedHead) (j : Journal) (items : List TraceItem) (x : TraceItem) → IsOther i x → Inv i behind j items → Inv i behind j (items ++ x ∷ [])
says i behind j items x o inv =
    let p = plain i x o in
    let still = plain-still i x p in
    inv-on i behind j items x still p.last (λ n l is within node. open-on i behind j l items x within still (λ d. p.named (j.name d)) (other-idle i x o)
    (λ o e. quiet-on i behind l items x within (j.name true) o.going o.unfenced still (p.named (j.name true)) p.notes (inl (last-same i behind j items x still p.last)))) inv

log-still : (i block : ℕ) → Still i (trace.WriteLog i block)
log-still i block = record { first = λ p. refl; ended = refl; fence = λ p. refl; losses = refl; keeps = record { life = λ p n ls. ap (life_at i n) (append-nil ls); count = λ p. refl } }

pub writes-log : (i : ℕ) (behind : ℕ → AcceptedHead) (j : Journal) (items : List TraceItem) (block : ℕ) → j.silent ≡ false → Inv i behind j items → Inv i behind j (items ++ trace.WriteLog i block ∷ [])
writes-log i behind j items block loud inv =
    inv-on i behind j items (trace.WriteLog i block) (log-still i block) (λ m. refl) (λ n l is within node.
    open-on i behind j l items (trace.WriteLog i block) within (log-still i block) (λ d. refl) tt (λ o e. true-false e loud)) inv

-- While the slot waits: from where on headers are the life's own doesn't matter then.
pub says-recovered : (i : ℕ) (behind : ℕ → AcceptedHead) (j : Journal) (items : List TraceItem) (r : ℕ) → j.waits ≡ true → Inv i behind j items → Inv i behind j (items ++ trace.Recovered i r ∷ [])
says-recovered i behind j items r waits inv = record {
  number = last-on i 0 items (trace.Recovered i r ∷ []) ∙ inv.number;
  count = count-same i items (trace.Recovered i r) keeps ∙ (inv.count ∙ ap (λ (m : ℕ). m + (j.unlost + cond j.runs 1 0)) (sym (losses-same i items (trace.Recovered i r) refl)));
  settled = inv.settled;
  single = inv.single;
  others = inv.others;
  even = inv.even;
  silent = inv.silent;
  lives = λ n l is low.
      let same = losses-same i items (trace.Recovered i r) refl in
      let old : life_at i n (lives_of items) ≡ Some l = sym (life-same i items (trace.Recovered i r) keeps n) ∙ is in
      let g = inv.lives n l old (omega (arith, low, same)) in
      record {
        node = g.node;
        within = longer items (trace.Recovered i r) l.join g.within;
        closed = λ h. closed-on i behind l items (trace.Recovered i r) g.within j n (λ p. refl) same (last-on i 0 items (trace.Recovered i r ∷ [])) (g.closed (omega (arith, h, same)));
        present = λ h.
            let o = g.present (omega (arith, h, same)) in
            record {
              going = going-on i behind l items (trace.Recovered i r) g.within o.going refl;
              unfenced = fence-same i behind l items (trace.Recovered i r) g.within (λ p. refl) ∙ o.unfenced;
              waiting = λ w. waiting-on i behind l items (trace.Recovered i r) g.within j tt (o.waiting w);
              acting = λ a. true-false waits a;
            };
      };
}
  where
    keeps : Keeps i (trace.Recovered i r)
    keeps = record { life = λ p n ls. ap (life_at i n) (append-nil ls); count = λ p. refl }

-- ---- a call

call-still : (i : ℕ) (name : List ℕ) (number : ℕ) (call : Call) (reply : Reply) → Still i (trace.Call i name number call reply)
call-still i name number call reply = record { first = λ p. refl; ended = refl; fence = λ p. refl; losses = refl; keeps = record { life = λ p n ls. ap (life_at i n) (append-nil ls); count = λ p. refl } }

pub answers : (i : ℕ) (behind : ℕ → AcceptedHead) (j : Journal) (items : List TraceItem) (name : List ℕ) (number : ℕ) (call : Call) (reply : Reply) → j.runs ≡ true → j.waits ≡ false
    → (j.silent ≡ true → (j.name true).is_clean ≡ false) → Inv i behind j items → Inv i behind (record j { last = number }) (items ++ trace.Call i name number call reply ∷ [])
answers i behind j items name number call reply runs acts dirty inv = record {
  number = last-on i 0 items (x ∷ []) ∙ ap (λ (b : Bool). cond b number (last_number i 0 items)) (eqb-self i);
  count = count-same i items x still.keeps ∙ (inv.count ∙ ap (λ (m : ℕ). m + (j.unlost + cond j.runs 1 0)) (sym (losses-same i items x still.losses)));
  settled = inv.settled;
  single = inv.single;
  others = inv.others;
  even = λ u why d. elim why [ inl stopped ↦ true-false runs stopped | inr waits ↦ true-false waits acts ];
  silent = inv.silent;
  lives = λ n l is low.
      let same = losses-same i items x still.losses in
      let old : life_at i n (lives_of items) ≡ Some l = sym (life-same i items x still.keeps n) ∙ is in
      let g = inv.lives n l old (omega (arith, low, same)) in
      record {
        node = g.node;
        within = longer items x l.join g.within;
        closed = λ h. none-closed i behind j items inv n acts (omega (arith, low, same)) (omega (arith, h, same));
        present = λ h.
            let o = g.present (omega (arith, h, same)) in
            let a = acting-on i behind l items x g.within j o.going o.unfenced still (λ d. refl) tt
            (λ e. quiet-on i behind l items x g.within (j.name true) o.going o.unfenced still refl (λ s. notes s) (inr (dirty e))) (o.acting acts) in
            record {
              going = going-on i behind l items x g.within o.going refl;
              unfenced = fence-same i behind l items x g.within (λ p. refl) ∙ o.unfenced;
              waiting = λ w. true-false w acts;
              acting = λ e. record { told = a.told; heads = a.heads; above = a.above; accepted = a.accepted; flying = a.flying; item = a.item };
            };
      };
}
  where
    x : TraceItem
    x = trace.Call i name number call reply

    still : Still i (trace.Call i name number call reply)
    still = call-still i name number call reply

    notes : (s : Unnamed) → (noted i s (trace.Call i name number call reply ∷ [])).upto ≡ s.upto
    notes s = by (i == i)
      where
        by : (b : Bool) → (cond b (let t : Unnamed = record s { last = number } in t) s).upto ≡ s.upto
        by true = refl
        by false = refl

-- ---- headers

head-still : (clean : Bool) (i block sequence upto : ℕ) → Still i (head_item clean i block sequence upto)
head-still true i block sequence upto = record { first = λ p. refl; ended = refl; fence = λ p. refl; losses = refl; keeps = record { life = λ p n ls. ap (life_at i n) (append-nil ls); count = λ p. refl } }
head-still false i block sequence upto = record { first = λ p. refl; ended = refl; fence = λ p. refl; losses = refl; keeps = record { life = λ p n ls. ap (life_at i n) (append-nil ls); count = λ p. refl } }

head-last : (clean : Bool) (i block sequence upto m : ℕ) → last_number i m (head_item clean i block sequence upto ∷ []) ≡ m
head-last true i block sequence upto m = refl
head-last false i block sequence upto m = refl

head-within : (clean : Bool) (i block sequence upto : ℕ) → HeadsWithin i sequence (head_item clean i block sequence upto ∷ [])
head-within true i block sequence upto = ((λ e. omega arith), tt)
head-within false i block sequence upto = ((λ e. omega arith), tt)

other-named : (clean : Bool) (i block sequence upto : ℕ) (h : AcceptedHead) → (sequence == h.sequence) ≡ false → named i h (head_item clean i block sequence upto ∷ []) ≡ None
other-named true i block sequence upto h ne = ap (λ (b : Bool). cond b (Some upto) None) (ap (λ (c : Bool). (i == i) && ((block == h.block) && c)) ne ∙ off (i == i) (block == h.block))
  where
    off : (a b : Bool) → (a && (b && false)) ≡ false
    off true true = refl
    off true false = refl
    off false b = refl
other-named false i block sequence upto h ne = ap (λ (b : Bool). cond b (Some upto) None) (ap (λ (c : Bool). (i == i) && ((block == h.block) && c)) ne ∙ off (i == i) (block == h.block))
  where
    off : (a b : Bool) → (a && (b && false)) ≡ false
    off true true = refl
    off true false = refl
    off false b = refl

own-named : (clean : Bool) (i block sequence upto : ℕ) → named i (record { block = block; sequence = sequence; is_clean = clean }) (head_item clean i block sequence upto ∷ []) ≡ Some upto
own-named true i block sequence upto = rw (eqb-self i) (rw (eqb-self block) (rw (eqb-self sequence) refl))
own-named false i block sequence upto = rw (eqb-self i) (rw (eqb-self block) (rw (eqb-self sequence) refl))

abbrev pub next_head : Journal → Bool → ℕ → AcceptedHead
next_head j clean block = record { block = block; sequence = suc (j.name false).sequence; is_clean = clean }

abbrev pub begun : ℕ → Journal → Bool → ℕ → ℕ → Journal
begun i j clean block upto = record j { cut = either (j.cut false) upto; name = either (j.name false) (next_head j clean block); flies = Some i }

pub begins : (i : ℕ) (behind : ℕ → AcceptedHead) (j : Journal) (items : List TraceItem) (clean : Bool) (block upto : ℕ) → j.runs ≡ true → j.waits ≡ false → j.silent ≡ false → j.flies ≡ None
    → Inv i behind j items → Inv i behind (begun i j clean block upto) (items ++ head_item clean i block (suc (j.name false).sequence) upto ∷ [])
begins i behind j items clean block upto runs acts loud alone inv = record {
  number = last-on i 0 items (x ∷ []) ∙ (head-last clean i block q upto (last_number i 0 items) ∙ inv.number);
  count = count-same i items x still.keeps ∙ (inv.count ∙ ap (λ (m : ℕ). m + (j.unlost + cond j.runs 1 0)) (sym (losses-same i items x still.losses)));
  settled = inv.settled;
  single = λ e. absurd (let f : Some i ≡ None = e in cc);
  others = λ r e ne. absurd (ne (sym (inside e)));
  even = λ u why d. elim why [ inl stopped ↦ true-false runs stopped | inr waits ↦ true-false waits acts ];
  silent = λ e. true-false e loud;
  lives = λ n l is low.
      let same = losses-same i items x still.losses in
      let old : life_at i n (lives_of items) ≡ Some l = sym (life-same i items x still.keeps n) ∙ is in
      let g = inv.lives n l old (omega (arith, low, same)) in
      record {
        node = g.node;
        within = longer items x l.join g.within;
        closed = λ h. none-closed i behind j items inv n acts (omega (arith, low, same)) (omega (arith, h, same));
        present = λ h. (let o = g.present (omega (arith, h, same)) in new-open l g.within o (o.acting acts));
      };
}
  where
    q : ℕ
    q = suc (j.name false).sequence

    x : TraceItem
    x = head_item clean i block (suc (j.name false).sequence) upto

    still : Still i (head_item clean i block (suc (j.name false).sequence) upto)
    still = head-still clean i block (suc (j.name false).sequence) upto

    new-open : (l : Life) → l.join < length items → Open i behind j items l → Acting i behind j items l
        → Open i behind (begun i j clean block upto) (items ++ head_item clean i block (suc (j.name false).sequence) upto ∷ []) l
    new-open l within o a = record {
      going = going-on i behind l items y within o.going still.ended;
      unfenced = fence-same i behind l items y within still.fence ∙ o.unfenced;
      waiting = λ w. true-false w acts;
      acting = λ e. record {
        told = told;
        heads = subst (HeadsWithin i (suc (j.name false).sequence)) (sym (rest-on l items (y ∷ []) within))
            (within-on i (suc (j.name false).sequence) (rest l items) (y ∷ []) (within-more i (j.name false).sequence (suc (j.name false).sequence) (rest l items) (omega arith) below)
            (head-within clean i block (suc (j.name false).sequence) upto));
        above = above;
        accepted = stable-more i behind l items (head_item clean i block (suc (j.name false).sequence) upto) within (j.name false) o.going (head-still clean i block (suc (j.name false).sequence) upto) unnamed-by a.accepted;
        flying = inl (ByItem upto (ap (named i (next_head j clean block)) (rest-on l items (y ∷ []) within) ∙ new-named));
        item = λ e. inl (upto, ap (named i (next_head j clean block)) (rest-on l items (y ∷ []) within) ∙ new-named);
      };
    }
      where
        y : TraceItem
        y = head_item clean i block (suc (j.name false).sequence) upto

        below : HeadsWithin i (j.name false).sequence (rest l items)
        below = subst (λ (h : AcceptedHead). HeadsWithin i h.sequence (rest l items)) (inv.single alone).1 a.heads

        stays : first i behind l (items ++ head_item clean i block (suc (j.name false).sequence) upto ∷ []) ≡ first i behind l items
        stays = let st = head-still clean i block (suc (j.name false).sequence) upto in first-same i behind l items (head_item clean i block (suc (j.name false).sequence) upto) within o.going st.ended st.first

        above : (d : Bool) → first i behind l (items ++ head_item clean i block (suc (j.name false).sequence) upto ∷ []) ≤ (either (j.name false) (next_head j clean block) d).sequence
        above false = let h : first i behind l items ≤ (j.name false).sequence = a.above false in let e = stays in omega (arith, h, e)
        above true = let h : first i behind l items ≤ (j.name false).sequence = a.above false in let e = stays in omega (arith, h, e)

        later : (suc (j.name false).sequence == (j.name false).sequence) ≡ false
        later = eqb-other (suc (j.name false).sequence) (j.name false).sequence (λ e. absurd (omega (arith, e)))

        unnamed-by : named i (j.name false) (head_item clean i block (suc (j.name false).sequence) upto ∷ []) ≡ None
        unnamed-by = other-named clean i block (suc (j.name false).sequence) upto (j.name false) later

        new-named : named i (next_head j clean block) (rest l items ++ head_item clean i block (suc (j.name false).sequence) upto ∷ []) ≡ Some upto
        new-named =
            named-on i (next_head j clean block) (rest l items) (head_item clean i block (suc (j.name false).sequence) upto ∷ [])
            ∙ (ap (λ (o : Option ℕ). first_of_two o (named i (next_head j clean block) (head_item clean i block (suc (j.name false).sequence) upto ∷ [])))
            (named-none i (j.name false).sequence (next_head j clean block) (rest l items) below (omega arith))
            ∙ own-named clean i block (suc (j.name false).sequence) upto)

        told : (d : Bool) → value i behind l (items ++ head_item clean i block (suc (j.name false).sequence) upto ∷ []) (either (j.name false) (next_head j clean block) d) ≡ either (j.cut false) upto d
        told false = stable-told i behind l items (head_item clean i block (suc (j.name false).sequence) upto) within (j.name false) o.going o.unfenced
            (head-still clean i block (suc (j.name false).sequence) upto) unnamed-by a.accepted ∙ a.told false
        told true =
            open-value-on i behind l items (head_item clean i block (suc (j.name false).sequence) upto) within (next_head j clean block) o.going o.unfenced
            (head-still clean i block (suc (j.name false).sequence) upto)
            ∙ ap (λ (o : Option ℕ). value_by o (own (first i behind l items) (next_head j clean block))
            (quiet_value i (rest l items ++ head_item clean i block (suc (j.name false).sequence) upto ∷ []) (base i l items) (last_number i 0 (items ++ head_item clean i block (suc (j.name false).sequence) upto ∷ [])) clean)
            (base i l items)) new-named

-- the last header that a node begins in its life, without an item
abbrev pub begun_last : ℕ → Journal → Bool → ℕ → ℕ → Journal
begun_last i j clean block upto = record j { cut = either (j.cut false) upto; name = either (j.name false) (next_head j clean block); flies = Some i; silent = true }

unnamed-is : (clean : Bool) (i last : ℕ) (l : Life) (items : List TraceItem) → l.node ≡ i → unnamed_upto clean i last l items ≡ quiet_value i (mine i l items) (base i l items) last clean
unnamed-is true i last l items e = refl
unnamed-is false i last l items e = λ t. unnamed i (record { upto = base (e t) l items; is_logged = false; last = base (e t) l items }) (mine (e t) l items)

pub begins-last : (i : ℕ) (behind : ℕ → AcceptedHead) (j : Journal) (items : List TraceItem) (clean : Bool) (block upto : ℕ) → j.runs ≡ true → j.waits ≡ false → j.silent ≡ false → j.flies ≡ None
    → ((l : Life) → present i j items ≡ Some l → upto ≡ unnamed_upto clean i j.last l items)
    → Inv i behind j items → Inv i behind (begun_last i j clean block upto) items
begins-last i behind j items clean block upto runs acts loud alone told-by inv = record {
  number = inv.number;
  count = inv.count;
  settled = inv.settled;
  single = λ e. absurd (let f : Some i ≡ None = e in cc);
  others = λ r e ne. absurd (ne (sym (inside e)));
  even = λ u why d. elim why [ inl stopped ↦ true-false runs stopped | inr waits ↦ true-false waits acts ];
  silent = λ e. (refl, runs);
  lives = λ n l is low.
      let g = inv.lives n l is low in
      record {
        node = g.node;
        within = g.within;
        closed = λ h. none-closed i behind j items inv n acts low h;
        present = λ h.
            let o = g.present h in
            let now : present i j items ≡ Some l = ap (λ (m : ℕ). life_at i m (lives_of items)) (sym (open-runs i behind j items inv n l is h).1) ∙ is in
            new-open l g.within g.node o (o.acting acts) (told-by l now);
      };
}
  where
    new-open : (l : Life) → l.join < length items → l.node ≡ i → Open i behind j items l → Acting i behind j items l
        → upto ≡ unnamed_upto clean i j.last l items → Open i behind (begun_last i j clean block upto) items l
    new-open l within node o a said = record {
      going = o.going;
      unfenced = o.unfenced;
      waiting = λ w. true-false w acts;
      acting = λ e. record {
        told = told;
        heads = within-more i (j.name false).sequence (suc (j.name false).sequence) (rest l items) (omega arith) below;
        above = above;
        accepted = a.accepted;
        flying = inr refl;
        item = λ e. inr refl;
      };
    }
      where
        below : HeadsWithin i (j.name false).sequence (rest l items)
        below = subst (λ (h : AcceptedHead). HeadsWithin i h.sequence (rest l items)) (inv.single alone).1 a.heads

        above : (d : Bool) → first i behind l items ≤ (either (j.name false) (next_head j clean block) d).sequence
        above false = a.above false
        above true = let h : first i behind l items ≤ (j.name false).sequence = a.above false in omega (arith, h)

        whole : mine i l items ≡ rest l items
        whole = mine-open i l items o.going

        is-own : own (first i behind l items) (next_head j clean block) ≡ true
        is-own = lt-ltb (first i behind l items) (suc (j.name false).sequence) (let h : first i behind l items ≤ (j.name false).sequence = a.above false in omega (arith, h))

        told : (d : Bool) → value i behind l items (either (j.name false) (next_head j clean block) d) ≡ either (j.cut false) upto d
        told false = a.told false
        told true =
            open-value i behind l items (trace.WriteLog i block) within (next_head j clean block) o.going o.unfenced
            ∙ (ap (λ (o : Option ℕ). value_by o (own (first i behind l items) (next_head j clean block)) (quiet_value i (rest l items) (base i l items) (last_number i 0 items) clean) (base i l items))
            (named-none i (j.name false).sequence (next_head j clean block) (rest l items) below (omega arith))
            ∙ (ap (λ (b : Bool). cond b (quiet_value i (rest l items) (base i l items) (last_number i 0 items) clean) (base i l items)) is-own
            ∙ (ap (λ (es : List TraceItem). quiet_value i es (base i l items) (last_number i 0 items) clean) (sym whole)
            ∙ (ap (λ (m : ℕ). quiet_value i (mine i l items) (base i l items) m clean) inv.number
            ∙ (sym (unnamed-is clean i j.last l items node) ∙ sym said)))))

-- ---- a commit

commit-still : (i sequence upto : ℕ) → Still i (trace.Commit i sequence upto)
commit-still i sequence upto = record { first = λ p. refl; ended = refl; fence = λ p. refl; losses = refl; keeps = record { life = λ p n ls. ap (life_at i n) (append-nil ls); count = λ p. refl } }

abbrev pub landed : Journal → Journal
landed j = record j { cut = λ e. j.cut true; name = λ e. j.name true; flies = None }

pub commits : (i : ℕ) (behind : ℕ → AcceptedHead) (j : Journal) (items : List TraceItem) (sequence upto : ℕ) → j.runs ≡ true → j.waits ≡ false → j.silent ≡ false → j.flies ≡ Some i
    → Inv i behind j items → Inv i behind (landed j) (items ++ trace.Commit i sequence upto ∷ [])
commits i behind j items sequence upto runs acts loud own-flies inv = record {
  number = last-on i 0 items (trace.Commit i sequence upto ∷ []) ∙ inv.number;
  count = count-same i items (trace.Commit i sequence upto) still.keeps ∙ (inv.count ∙ ap (λ (m : ℕ). m + (j.unlost + cond j.runs 1 0)) (sym (losses-same i items (trace.Commit i sequence upto) still.losses)));
  settled = inv.settled;
  single = λ e. (refl, refl);
  others = λ r e ne. refl;
  even = λ u why d. elim why [ inl stopped ↦ true-false runs stopped | inr waits ↦ true-false waits acts ];
  silent = λ e. true-false e loud;
  lives = λ n l is low.
      let same = losses-same i items (trace.Commit i sequence upto) still.losses in
      let old : life_at i n (lives_of items) ≡ Some l = sym (life-same i items (trace.Commit i sequence upto) still.keeps n) ∙ is in
      let g = inv.lives n l old (omega (arith, low, same)) in
      record {
        node = g.node;
        within = longer items (trace.Commit i sequence upto) l.join g.within;
        closed = λ h. none-closed i behind j items inv n acts (omega (arith, low, same)) (omega (arith, h, same));
        present = λ h.
            let o = g.present (omega (arith, h, same)) in
            let a = o.acting acts in
            let u = by-item a (a.item own-flies) in
            new-open l g.within o a u.0 u.1;
      };
}
  where
    still : Still i (trace.Commit i sequence upto)
    still = commit-still i sequence upto

    by-item : {l : Life} → Acting i behind j items l → ((u : ℕ) × (named i (j.name true) (rest l items) ≡ Some u)) ⊎ (j.silent ≡ true) → (u : ℕ) × (named i (j.name true) (rest l items) ≡ Some u)
    by-item a (inl u) = u
    by-item a (inr s) = true-false s loud

    new-open : (l : Life) → l.join < length items → Open i behind j items l → Acting i behind j items l → (u : ℕ) → named i (j.name true) (rest l items) ≡ Some u
        → Open i behind (landed j) (items ++ trace.Commit i sequence upto ∷ []) l
    new-open l within o a u e = record {
      going = going-on i behind l items (trace.Commit i sequence upto) within o.going refl;
      unfenced = fence-same i behind l items (trace.Commit i sequence upto) within (λ p. refl) ∙ o.unfenced;
      waiting = λ w. true-false w acts;
      acting = λ f. record {
        told = λ d.
            open-value-on i behind l items (trace.Commit i sequence upto) within (j.name true) o.going o.unfenced still
            ∙ (ap (λ (o : Option ℕ). value_by o (own (first i behind l items) (j.name true))
            (quiet_value i (rest l items ++ trace.Commit i sequence upto ∷ []) (base i l items) (last_number i 0 (items ++ trace.Commit i sequence upto ∷ [])) (j.name true).is_clean) (base i l items)) now
            ∙ (sym (open-value i behind l items (trace.Commit i sequence upto) within (j.name true) o.going o.unfenced
            ∙ ap (λ (o : Option ℕ). value_by o (own (first i behind l items) (j.name true)) (quiet_value i (rest l items) (base i l items) (last_number i 0 items) (j.name true).is_clean) (base i l items)) e)
            ∙ a.told true));
        heads = subst (HeadsWithin i (j.name true).sequence) (sym (rest-on l items (trace.Commit i sequence upto ∷ []) within))
            (within-on i (j.name true).sequence (rest l items) (trace.Commit i sequence upto ∷ []) a.heads tt);
        above = λ d. (let h : first i behind l items ≤ (j.name true).sequence = a.above true in let e = first-same i behind l items (trace.Commit i sequence upto) within o.going refl (λ p. refl) in omega (arith, h, e));
        accepted = ByItem u (ap (named i (j.name true)) (rest-on l items (trace.Commit i sequence upto ∷ []) within) ∙ now);
        flying = inl (ByItem u (ap (named i (j.name true)) (rest-on l items (trace.Commit i sequence upto ∷ []) within) ∙ now));
        item = λ f. absurd (let g : None ≡ Some i = f in cc);
      };
    }
      where
        now : named i (j.name true) (rest l items ++ trace.Commit i sequence upto ∷ []) ≡ Some u
        now = named-same i behind l items (trace.Commit i sequence upto) within (j.name true) refl ∙ e
