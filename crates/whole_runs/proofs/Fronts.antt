-- What holds of a run's own items holds front by front with all that came behind them.
use Rattle.std.proofs.Common.{◌≡◌, ◌⊎◌, ℕ, zero, suc, ◌+◌, ◌-◌, ◌<◌, ◌≤◌, List, [], ◌∷◌, ◌++◌, length, take, Some, refl, sym, ap, subst, ◌∙◌, inl, inr, arith}
use Rattle.std.specs.Prelude.{⊤, slice_get, Option, None}
use Rattle.std.specs.List.{AllByRecursion}
use Rattle.std.proofs.lemmas.Bool.{cases_lt}
use Rattle.std.proofs.lemmas.List.{append_assoc, length-append}
use Rattle.cluster_history.specs.History.{KeepsSynced, Legal, tree_of}
use Rattle.cluster_history.specs.declared.Item.{Item}
use Rattle.cluster_history.specs.declared.Item.TheVariants as item
use Rattle.file_tree.specs.Tree.{Tree}
use Rattle.file_tree.specs.declared.call.Call.TheVariants as calls
use Rattle.file_tree.specs.declared.reply.Reply.TheVariants as replies
use Rattle.image_machine.specs.Volumes.{Volume}
use Rattle.image_model.specs.Image.{Image, image_of}
use Rattle.image_model.specs.Replays.{StandsReplayed}
use Rattle.journal_outcomes.specs.Disks.{flown_by}
use Rattle.logged_runs.specs.Disks.{disk_after, first_told, told_count}
use Rattle.logged_runs.specs.Laws.{IsStop, MayLeave, StandsLost, to_fence, to_loss}
use Rattle.logged_runs.specs.Standing.{StandsAsTold}
use Rattle.logged_runs.proofs.Telling.{append_nil, take_all, take_front}
use Rattle.run_rules.specs.Follows.{history_of, place_of}
use Rattle.run_rules.specs.Lives.{TraceKeptRight}
use Rattle.script_lang.specs.declared.script.Client.{Client}
use Rattle.shared_disk.specs.Disk.{DiskState, Fence, Flight, Operation, after_fence, flight_to}
use Rattle.trace_text.specs.declared.item.TraceItem.{TraceItem}
use Rattle.trace_text.specs.declared.item.TraceItem.TheVariants as trace
use Rattle.whole_runs.specs.Fronts.{ComesBehind, IsRightLoss, SettlesRight, StandsAtEachFront, a_fence, a_loss, a_stop, disk_left, heads_behind, nothing_more}
use Rattle.whole_runs.specs.Wholes.{Course, disk_behind, going_on, heads_of, stopped_course}
use Rattle.whole_runs.proofs.Bringing.{after_on, take_behind}
use Rattle.whole_runs.proofs.Starting.{only_itself}
use Rattle.whole_runs.proofs.Wholes.{behind_front, behind_stop}

-- ---- items without a loss

abbrev pub IsNoLoss : TraceItem → Type 0
IsNoLoss (trace.Lost node kept) = ⊥
IsNoLoss _ = ⊤

no_loss_at : (items : List TraceItem) (p node kept : ℕ) → AllByRecursion IsNoLoss items → slice_get items p ≡ Some (trace.Lost node kept) → ⊥
no_loss_at [] p node kept all at = none_there at
  where
    none_there : ◌≡◌ {A = Option TraceItem} None (Some (trace.Lost node kept)) → ⊥
    none_there e = cc
no_loss_at (x ∷ xs) zero node kept all at = subst IsNoLoss (same at) all.0
  where
    same : Some x ≡ Some (trace.Lost node kept) → x ≡ trace.Lost node kept
    same e = cc
no_loss_at (x ∷ xs) (suc p) node kept all at = no_loss_at xs p node kept all.1 at

no_loss_in : (clients : List Client) (items : List TraceItem) (p node kept : ℕ) → AllByRecursion IsNoLoss items → slice_get (history_of clients items) p ≡ Some (item.Lost node kept) → ⊥
no_loss_in clients [] p node kept all at = none_there at
  where
    none_there : ◌≡◌ {A = Option Item} None (Some (item.Lost node kept)) → ⊥
    none_there e = cc
no_loss_in clients (trace.Call i name number call reply ∷ xs) zero node kept all at = cc
no_loss_in clients (trace.Call i name number call reply ∷ xs) (suc p) node kept all at = no_loss_in clients xs p node kept all.1 at
no_loss_in clients (trace.Lost i k ∷ xs) p node kept all at = all.0
no_loss_in clients (x ∷ xs) p node kept all at = no_loss_in clients xs p node kept all.1 at

-- so none ends with one
no_last : (xs before : List TraceItem) (kept : ℕ) → AllByRecursion IsNoLoss xs → xs ≡ before ++ trace.Lost 1 kept ∷ [] → ⊥
no_last xs before kept all are = last_lost before (subst (AllByRecursion IsNoLoss) are all)
  where
    last_lost : (ys : List TraceItem) → AllByRecursion IsNoLoss (ys ++ trace.Lost 1 kept ∷ []) → ⊥
    last_lost [] none = none.0
    last_lost (y ∷ ys) none = last_lost ys none.1

pub no_loss_on : (xs ys : List TraceItem) → AllByRecursion IsNoLoss xs → AllByRecursion IsNoLoss ys → AllByRecursion IsNoLoss (xs ++ ys)
no_loss_on [] ys one two = two
no_loss_on (x ∷ xs) ys one two = (one.0, no_loss_on xs ys one.1 two)

-- ---- a stop

stop_is_no_loss : (x : TraceItem) → IsStop x → IsNoLoss x
stop_is_no_loss (trace.Crash node) is = tt
stop_is_no_loss (trace.Withdraw node before after) is = tt
stop_is_no_loss (trace.Lost node kept) is = is
stop_is_no_loss x is = tt

stop_tells_nothing : (x : TraceItem) → IsStop x → told_count (x ∷ []) ≡ 0
stop_tells_nothing (trace.Crash node) is = refl
stop_tells_nothing (trace.Withdraw node before after) is = refl
stop_tells_nothing x is = absurd is

fence_is_told : (x : TraceItem) (kept : ℕ) → IsStop x → (told_count (x ∷ trace.Fence 1 ∷ []) ≡ 1) × (told_count (x ∷ trace.Fence 1 ∷ trace.Lost 1 kept ∷ []) ≡ 1)
fence_is_told (trace.Crash node) kept is = (refl, refl)
fence_is_told (trace.Withdraw node before after) kept is = (refl, refl)
fence_is_told x kept is = absurd is

-- neither it nor the fence is in the history
pub silent : (clients : List Client) (items : List TraceItem) (x : TraceItem) → IsStop x → (history_of clients (items ++ x ∷ []) ≡ history_of clients items) × (history_of clients (to_fence x items) ≡ history_of clients items)
silent clients [] (trace.Crash node) is = (refl, refl)
silent clients [] (trace.Withdraw node before after) is = (refl, refl)
silent clients [] x is = absurd is
silent clients (trace.Call i name number call reply ∷ xs) x is =
    let rest = silent clients xs x is in
    (ap (λ (h : List Item). item.Call i (place_of clients name) number call reply ∷ h) rest.0, ap (λ (h : List Item). item.Call i (place_of clients name) number call reply ∷ h) rest.1)
silent clients (trace.Lost i kept ∷ xs) x is = let rest = silent clients xs x is in (ap (λ (h : List Item). item.Lost i kept ∷ h) rest.0, ap (λ (h : List Item). item.Lost i kept ∷ h) rest.1)
silent clients (y ∷ xs) x is = silent clients xs x is

-- ---- what is known of its own items

-- they stand at each front, and behind a stop and a fence, by whatever heads there are behind them; with a right loss they stand as they then tell; and their history is legal, with no loss in it
pub record StandsOfItself (v : Volume) (d : ℕ) (clients : List Client) (start : DiskState) (tree : Tree) (c : Course) : Type 0 where
  pub legal : Legal (history_of clients c.items) tree
  pub none : AllByRecursion IsNoLoss c.items
  pub fronts : (end : List TraceItem) (later : List Operation) (count : ℕ) (left : Image) → count ≤ length c.items → MayLeave v (disk_behind start c count) left
      → StandsAsTold clients (heads_of v d start (going_on c end later) left) (take count c.items) tree left
  pub whole : (end : List TraceItem) (later : List Operation) (left : Image) → MayLeave v (disk_left start c) left → StandsAsTold clients (heads_of v d start (going_on c end later) left) c.items tree left
  pub stops : (end : List TraceItem) (later : List Operation) (x : TraceItem) (left : Image) → IsStop x → MayLeave v (disk_left start c) left → StandsAsTold clients (heads_of v d start (going_on c end later) left) (c.items ++ x ∷ []) tree left
  pub fences : (x : TraceItem) (became : List Flight) (more : List TraceItem) → IsStop x → SettlesRight v (disk_left start c) became
      → let left = image_of (after_fence (disk_left start c) 1 became) in StandsAsTold clients (heads_of v d start (stopped_course c x became more) left) (to_fence x c.items) tree left
  pub lost : (x : TraceItem) (became : List Flight) (kept : ℕ) → IsStop x → SettlesRight v (disk_left start c) became → IsRightLoss v d clients start c x became kept
      → let left = image_of (after_fence (disk_left start c) 1 became) in StandsLost clients (heads_of v d start (stopped_course c x became (trace.Lost 1 kept ∷ [])) left) x c.items tree left kept

module _ (v : Volume) (d : ℕ) (clients : List Client) (start : DiskState) (tree : Tree) (c : Course) (is : StandsOfItself v d clients start tree c) where
  abbrev n : ℕ
  n = length c.items

  -- ---- within its own items

  own_front : (end : List TraceItem) (later : List Operation) (count : ℕ) (left : Image) → count ≤ n → MayLeave v (disk_behind start (going_on c end later) count) left
      → StandsAsTold clients (heads_of v d start (going_on c end later) left) (take count (c.items ++ end)) tree left
  own_front end later count left low may =
      subst (λ xs. StandsAsTold clients (heads_of v d start (going_on c end later) left) xs tree left) (sym (take_front count c.items end low))
      (is.fronts end later count left low (subst (λ s. MayLeave v s left) (behind_front start (going_on c end later) count low ∙ sym (behind_front start c count low)) may))

  -- ---- behind it

  -- the disk behind so many of these items
  disk_there : (end : List TraceItem) (later : List Operation) (k : ℕ) (count : ℕ) → count ≡ n + suc k → disk_behind start (going_on c end later) count ≡ disk_after (disk_left start c) (first_told (take (suc k) end) later)
  disk_there end later k count at =
      let behind : count - n ≡ suc k = omega (arith, at) in
      behind_stop start (going_on c end later) count (omega (arith, at))
      ∙ ap (λ m. disk_after start ((c.operations ++ c.further) ++ first_told (take m end) later)) behind
      ∙ after_on start (c.operations ++ c.further) (first_told (take (suc k) end) later)

  items_there : (end : List TraceItem) (k count : ℕ) → count ≡ n + k → take count (c.items ++ end) ≡ c.items ++ take k end
  items_there end k count at =
      let behind : count - n ≡ k = omega (arith, at) in
      take_behind count c.items end (omega (arith, at)) ∙ ap (λ m. c.items ++ take m end) behind

  -- the stop
  stop_front : (x : TraceItem) (rest : List TraceItem) (later : List Operation) (count : ℕ) (left : Image) → IsStop x → count ≡ n + 1 → MayLeave v (disk_behind start (going_on c (x ∷ rest) later) count) left
      → StandsAsTold clients (heads_of v d start (going_on c (x ∷ rest) later) left) (take count (c.items ++ x ∷ rest)) tree left
  stop_front x rest later count left is_stop at may =
      let there = disk_there (x ∷ rest) later 0 count at ∙ ap (λ m. disk_after (disk_left start c) (take m later)) (stop_tells_nothing x is_stop) in
      subst (λ xs. StandsAsTold clients (heads_of v d start (going_on c (x ∷ rest) later) left) xs tree left) (sym (items_there (x ∷ rest) 1 count at))
      (is.stops (x ∷ rest) later x left is_stop (subst (λ s. MayLeave v s left) there may))

  -- the fence
  module _ (x : TraceItem) (became : List Flight) (is_stop : IsStop x) (settles : SettlesRight v (disk_left start c) became) where
    abbrev fenced : DiskState
    fenced = after_fence (disk_left start c) 1 became

    -- nothing is in flight then
    one_outcome : (left : Image) → MayLeave v fenced left → left ≡ image_of fenced
    one_outcome left may = only_itself (image_of fenced) left (flown_by fenced 1) (λ b. refl) may.outcome

    fence_front : (more : List TraceItem) (count : ℕ) (left : Image) → count ≡ n + 2 → MayLeave v (disk_behind start (stopped_course c x became more) count) left
        → StandsAsTold clients (heads_of v d start (stopped_course c x became more) left) (take count (c.items ++ x ∷ trace.Fence 1 ∷ more)) tree left
    fence_front more count left at may =
        let there = disk_there (x ∷ trace.Fence 1 ∷ more) (Fence 1 became ∷ []) 1 count at ∙ ap (λ m. disk_after (disk_left start c) (take m (Fence 1 became ∷ []))) (fence_is_told x 0 is_stop).0 in
        let same = one_outcome left (subst (λ s. MayLeave v s left) there may) in
        subst (λ xs. StandsAsTold clients (heads_of v d start (stopped_course c x became more) left) xs tree left) (sym (items_there (x ∷ trace.Fence 1 ∷ more) 2 count at))
        (subst (λ im. StandsAsTold clients (heads_of v d start (stopped_course c x became more) im) (to_fence x c.items) tree im) (sym same) (is.fences x became more is_stop settles))

    loss_front : (kept count : ℕ) (left : Image) → IsRightLoss v d clients start c x became kept → count ≡ n + 3 → MayLeave v (disk_behind start (stopped_course c x became (trace.Lost 1 kept ∷ [])) count) left
        → StandsAsTold clients (heads_of v d start (stopped_course c x became (trace.Lost 1 kept ∷ [])) left) (take count (c.items ++ x ∷ trace.Fence 1 ∷ trace.Lost 1 kept ∷ [])) tree left
    loss_front kept count left right at may =
        let end = x ∷ trace.Fence 1 ∷ trace.Lost 1 kept ∷ [] in
        let there = disk_there end (Fence 1 became ∷ []) 2 count at ∙ ap (λ m. disk_after (disk_left start c) (take m (Fence 1 became ∷ []))) (fence_is_told x kept is_stop).1 in
        let same = one_outcome left (subst (λ s. MayLeave v s left) there may) in
        subst (λ xs. StandsAsTold clients (heads_of v d start (stopped_course c x became (trace.Lost 1 kept ∷ [])) left) xs tree left) (sym (items_there end 3 count at))
        (subst (λ im. StandsAsTold clients (heads_of v d start (stopped_course c x became (trace.Lost 1 kept ∷ [])) im) (to_loss x c.items kept) tree im) (sym same)
        (is.lost x became kept is_stop settles right).told)

  -- ---- a course in whose history no loss is

  module _ (e : Course) (same : history_of clients (e.items ++ e.end) ≡ history_of clients c.items) (none : AllByRecursion IsNoLoss (e.items ++ e.end)) where
    abbrev end_legal : Legal (history_of clients (e.items ++ e.end)) tree
    end_legal = subst (λ h. Legal h tree) (sym same) is.legal

    abbrev end_synced : KeepsSynced (history_of clients (e.items ++ e.end))
    end_synced p q node client number kept before sync lost = absurd (no_loss_in clients (e.items ++ e.end) q node kept none lost)

    abbrev end_right : TraceKeptRight clients (heads_behind v d start e) (e.items ++ e.end)
    end_right p node kept lost = absurd (no_loss_at (e.items ++ e.end) p node kept none lost)

  -- ---- all of it

  as_it_is : StandsAtEachFront v d clients start tree (going_on c [] [])
  as_it_is = record {
    legal = end_legal e same none;
    synced = end_synced e same none;
    right = end_right e same none;
    fronts = λ count left low may. own_front [] [] count left (let long = ap length (append_nil c.items) in omega (arith, low, long)) may;
    whole = λ left may.
        subst (λ xs. StandsAsTold clients (heads_of v d start e left) xs tree left) (sym (append_nil c.items))
        (is.whole [] [] left (subst (λ os. MayLeave v (disk_after start os) left) (append_nil (c.operations ++ c.further)) may));
    settled = λ ends. absurd (no_last [] ends.before ends.kept tt ends.are);
  }
    where
      e : Course
      e = going_on c [] []

      same : history_of clients (c.items ++ []) ≡ history_of clients c.items
      same = ap (history_of clients) (append_nil c.items)

      none : AllByRecursion IsNoLoss (c.items ++ [])
      none = no_loss_on c.items [] is.none tt

  module _ (x : TraceItem) (is_stop : IsStop x) where
    stopped : StandsAtEachFront v d clients start tree (going_on c (x ∷ []) [])
    stopped = record {
      legal = end_legal e (silent clients c.items x is_stop).0 none;
      synced = end_synced e (silent clients c.items x is_stop).0 none;
      right = end_right e (silent clients c.items x is_stop).0 none;
      fronts = λ count left low may. elim (cases_lt n count) [
        | inr within ↦ own_front (x ∷ []) [] count left (omega (arith, within)) may
        | inl past ↦ stop_front x [] [] count left is_stop (let long = length-append c.items (x ∷ []) in omega (arith, low, past, long)) may
      ];
      whole = λ left may. is.stops (x ∷ []) [] x left is_stop (subst (λ os. MayLeave v (disk_after start os) left) (append_nil (c.operations ++ c.further)) may);
      settled = λ ends. absurd (no_last (x ∷ []) ends.before ends.kept (stop_is_no_loss x is_stop, tt) ends.are);
    }
      where
        e : Course
        e = going_on c (x ∷ []) []

        none : AllByRecursion IsNoLoss (c.items ++ x ∷ [])
        none = no_loss_on c.items (x ∷ []) is.none (stop_is_no_loss x is_stop, tt)

    module _ (became : List Flight) (settles : SettlesRight v (disk_left start c) became) where
      -- the disk with all its operations
      all_after : (left : Image) → MayLeave v (disk_after start ((c.operations ++ c.further) ++ Fence 1 became ∷ [])) left → MayLeave v (after_fence (disk_left start c) 1 became) left
      all_after left may = subst (λ s. MayLeave v s left) (after_on start (c.operations ++ c.further) (Fence 1 became ∷ [])) may

      fenced_too : StandsAtEachFront v d clients start tree (stopped_course c x became [])
      fenced_too = record {
        legal = end_legal e (silent clients c.items x is_stop).1 none;
        synced = end_synced e (silent clients c.items x is_stop).1 none;
        right = end_right e (silent clients c.items x is_stop).1 none;
        fronts = λ count left low may. elim (cases_lt n count) [
          | inr within ↦ own_front (x ∷ trace.Fence 1 ∷ []) (Fence 1 became ∷ []) count left (omega (arith, within)) may
          | inl past ↦ elim (cases_lt (n + 1) count) [
            | inr first ↦ stop_front x (trace.Fence 1 ∷ []) (Fence 1 became ∷ []) count left is_stop (omega (arith, past, first)) may
            | inl second ↦ fence_front x became is_stop settles [] count left (let long = length-append c.items (x ∷ trace.Fence 1 ∷ []) in omega (arith, low, second, long)) may
          ]
        ];
        whole = λ left may.
            subst (λ im. StandsAsTold clients (heads_of v d start e im) (to_fence x c.items) tree im) (sym (one_outcome x became is_stop settles left (all_after left may))) (is.fences x became [] is_stop settles);
        settled = λ ends. absurd (no_last (x ∷ trace.Fence 1 ∷ []) ends.before ends.kept (stop_is_no_loss x is_stop, (tt, tt)) ends.are);
      }
        where
          e : Course
          e = stopped_course c x became []

          none : AllByRecursion IsNoLoss (to_fence x c.items)
          none = no_loss_on c.items (x ∷ trace.Fence 1 ∷ []) is.none (stop_is_no_loss x is_stop, (tt, tt))

      -- the heads behind the items are those that the run's one journal has
      lost_too : (kept : ℕ) → IsRightLoss v d clients start c x became kept → StandsAtEachFront v d clients start tree (stopped_course c x became (trace.Lost 1 kept ∷ []))
      lost_too kept right = record {
        legal = lost.legal;
        synced = lost.kept;
        right = lost.right;
        fronts = λ count left low may. elim (cases_lt n count) [
          | inr within ↦ own_front end (Fence 1 became ∷ []) count left (omega (arith, within)) may
          | inl past ↦ elim (cases_lt (n + 1) count) [
            | inr first ↦ stop_front x (trace.Fence 1 ∷ trace.Lost 1 kept ∷ []) (Fence 1 became ∷ []) count left is_stop (omega (arith, past, first)) may
            | inl more ↦ elim (cases_lt (n + 2) count) [
              | inr second ↦ fence_front x became is_stop settles (trace.Lost 1 kept ∷ []) count left (omega (arith, more, second)) may
              | inl third ↦ loss_front x became is_stop settles kept count left right (let long = length-append c.items end in omega (arith, low, third, long)) may
            ]
          ]
        ];
        whole = λ left may.
            subst (λ im. StandsAsTold clients (heads_of v d start (stopped_course c x became (trace.Lost 1 kept ∷ [])) im) (to_loss x c.items kept) tree im)
            (sym (one_outcome x became is_stop settles left (all_after left may))) lost.told;
        settled = λ ends. subst (λ s. StandsReplayed (image_of s) (tree_of (history_of clients (to_loss x c.items kept)) tree)) (sym (after_on start (c.operations ++ c.further) (Fence 1 became ∷ []))) lost.stands;
      }
        where
          end : List TraceItem
          end = x ∷ trace.Fence 1 ∷ trace.Lost 1 kept ∷ []

          lost : StandsLost clients (heads_of v d start (stopped_course c x became (trace.Lost 1 kept ∷ [])) (image_of (after_fence (disk_left start c) 1 became))) x c.items tree (image_of (after_fence (disk_left start c) 1 became)) kept
          lost = is.lost x became kept is_stop settles right

  pub each_front : (e : Course) → ComesBehind v d clients start c e → StandsAtEachFront v d clients start tree e
  each_front _ nothing_more = as_it_is
  each_front _ (a_stop x is_stop) = stopped x is_stop
  each_front _ (a_fence x became is_stop settles) = fenced_too x is_stop became settles
  each_front _ (a_loss x became kept is_stop settles right) = lost_too x is_stop became settles kept right
