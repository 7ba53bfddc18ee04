-- Clients and the shares that they hold, and the backends of these.
use Rattle.std.proofs.Common.{◌≡◌, ℕ, ◌*◌, List, [], ◌∷◌, ◌++◌, length, map, ap, sym, ◌∙◌, subst}
use Rattle.std.proofs.Common.{arith, append-nil, append_assoc, take, refl, ◌≢◌}
use Rattle.std.specs.Prelude.{Some, Option, None}
use Rattle.std.specs.List.{All, AllZip}
use Rattle.std.proofs.lemmas.List.Elements.{All-nil, All-cons, All-head, All-tail}
use Rattle.page_check.specs.declared.world.World.{Ghosts as WorldGhosts}
use Rattle.aio_handle.specs.ContractViews.{TableView}
use Rattle.handoff.specs.HandoffViews.{ClientView}
use Rattle.method_worker.specs.QueueViews.{QueueView}
use Rattle.aio_disk.specs.declared.disk.Disk.{Ghosts as DiskGhosts}
use Rattle.scan_rounds.specs.DiskActors.{ActorHasRoom, IsBackend}
use Rattle.scan_rounds.specs.Exchanges.{ClientsHold}
use Rattle.scan_jobs.specs.Jobs.{IsNewJob}
use Rattle.scan_rounds.specs.RunLeads.{BackendsMayGoOut, IsNewShare, share_backend}
use Rattle.scan_rounds.specs.Shares.{ShareMayBeListed}
use Rattle.scan_rounds.specs.declared.backend.Backend.{Backend}
use Rattle.scan_rounds.specs.declared.share.RunTerms.{RunTerms}
use Rattle.scan_rounds.specs.declared.share.Share.{Share}
use Rattle.scan_rounds.proofs.ListPairs.{all_back, all_front, zip-beside}

-- a client has one request
pub same_request : {Q : Type 0} {o : Option Q} (s r : Q) → o ≡ Some s → o ≡ Some r → s ≡ r
same_request s r one two = cc

pub request_of : {Q : Type 0} (o : Option Q) → o ≢ None → (s : Q) × (o ≡ Some s)
request_of (Some s) some = (s, refl)
request_of None some = absurd (some refl)

-- the last, and those before it
pub all_last : {A : Type 0} (x : A) (xs us : List A) → us ≡ xs ++ x ∷ [] → (P : A → Type 0)
    → All P us → All P xs × P x
all_last x xs us is P all =
    let both = subst (λ (l : List _). All P l) is all in
    (all_front P xs (x ∷ []) both, All-head P x [] (all_back P xs (x ∷ []) both))

module _ {W D : Type 0} where
  abbrev Holds : ClientView (RunTerms W) (Share W D) → Share W D → Type 0
  Holds c s = c.requested ≡ Some s

  -- the first of some clients and the others, with the shares that they hold
  pub held_first : (c : ClientView (RunTerms W) (Share W D))
      (cs : List (ClientView (RunTerms W) (Share W D))) (ss : List (Share W D))
      → ClientsHold (c ∷ cs) ss
      → (x : Share W D) × (xs : List (Share W D)) × (ss ≡ x ∷ xs) × (c.requested ≡ Some x)
      × ClientsHold cs xs
  held_first c cs (x ∷ xs) hold = (x, xs, refl, hold.0, hold.1)
  held_first c cs [] hold = absurd hold

  pub held_none : (cs : List (ClientView (RunTerms W) (Share W D))) (ss : List (Share W D))
      → length cs ≡ 0 → ClientsHold cs ss → ss ≡ []
  held_none [] [] none hold = refl
  held_none [] (x ∷ xs) none hold = absurd hold
  held_none (c ∷ cs) ss none hold = absurd (omega (arith, none))

  pub held_same : (cs : List (ClientView (RunTerms W) (Share W D))) (ss rs : List (Share W D))
      → ClientsHold cs ss → ClientsHold cs rs → ss ≡ rs
  held_same [] [] [] one two = refl
  held_same (c ∷ cs) (x ∷ xs) (y ∷ ys) one two =
      ap (λ (z : Share W D). z ∷ xs) (same_request x y one.0 two.0)
      ∙ ap (λ (zs : List (Share W D)). y ∷ zs) (held_same cs xs ys one.1 two.1)
  held_same [] (x ∷ xs) rs one two = absurd one
  held_same [] [] (y ∷ ys) one two = absurd two
  held_same (c ∷ cs) [] rs one two = absurd one
  held_same (c ∷ cs) (x ∷ xs) [] one two = absurd two

  -- the share that the first of them holds
  pub first_share : (P : Share W D → Type 0) (c : ClientView (RunTerms W) (Share W D))
      (cs us : List (ClientView (RunTerms W) (Share W D))) (ss : List (Share W D)) → us ≡ c ∷ cs
      → ClientsHold us ss → All P ss → (s : Share W D) → c.requested ≡ Some s → P s
  first_share P c cs us ss is hold all s here =
      let parts = zip-beside Holds c cs ss (subst (λ (l : List _). ClientsHold l ss) is hold) in
      subst P (same_request parts.0 s parts.3 here)
      (All-head P parts.0 parts.1 (subst (λ (l : List (Share W D)). All P l) parts.2 all))

  -- those of the others
  pub later_shares : (P : Share W D → Type 0) (c : ClientView (RunTerms W) (Share W D))
      (cs us : List (ClientView (RunTerms W) (Share W D))) (ss : List (Share W D)) → us ≡ c ∷ cs
      → ClientsHold us ss → All P ss → (rs : List (Share W D)) × ClientsHold cs rs × All P rs
  later_shares P c cs us ss is hold all =
      let parts = zip-beside Holds c cs ss (subst (λ (l : List _). ClientsHold l ss) is hold) in (
        parts.1,
        parts.4,
        All-tail P parts.0 parts.1 (subst (λ (l : List (Share W D)). All P l) parts.2 all),
      )

  -- none goes out
  pub none_out : (places : ℕ) (cs : List (ClientView (RunTerms W) (Share W D)))
      (bs : List (Backend W D)) → length cs ≡ 0
      → (rs : List (Share W D)) × ClientsHold cs rs × (bs ≡ bs ++ map share_backend rs)
      × All (IsNewShare places) rs
  none_out places [] bs none = ([], tt, sym (append-nil bs), All-nil (IsNewShare places))
  none_out places (c ∷ cs) bs none = absurd (omega arith)

  -- the last of the backends goes out
  pub one_out : (places : ℕ) (c : ClientView (RunTerms W) (Share W D))
      (cs : List (ClientView (RunTerms W) (Share W D))) (s : Share W D)
      (bs ds es : List (Backend W D)) → c.requested ≡ Some s → IsNewShare places s
      → ds ≡ es ++ s.backend ∷ [] → (out : (rs : List (Share W D)) × ClientsHold cs rs
      × (bs ≡ ds ++ map share_backend rs) × All (IsNewShare places) rs)
      → (rs : List (Share W D)) × ClientsHold (c ∷ cs) rs × (bs ≡ es ++ map share_backend rs)
      × All (IsNewShare places) rs
  one_out places c cs s bs ds es holds new popped out = (
    s ∷ out.0,
    (holds, out.1),
    out.2
        ∙ (ap (λ (l : List (Backend W D)). l ++ map share_backend out.0) popped
        ∙ append_assoc es (s.backend ∷ []) (map share_backend out.0)),
    All-cons (IsNewShare places) s out.0 new out.3,
  )

  module _ (R : Share W D → Share W D → Type 0) where
    -- the shares of these clients have come back, behind these backends
    abbrev Gathered : List (ClientView (RunTerms W) (Share W D)) → List (Backend W D)
        → List (Backend W D) → Type 0
    Gathered cs bs es = (ss : List (Share W D)) → ClientsHold cs ss
        → (rs : List (Share W D)) × AllZip R ss rs × (es ≡ bs ++ map share_backend rs)

    pub none_gathered : (cs : List (ClientView (RunTerms W) (Share W D)))
        (bs : List (Backend W D)) → length cs ≡ 0 → Gathered cs bs bs
    none_gathered [] bs none [] hold = ([], tt, sym (append-nil bs))
    none_gathered [] bs none (s ∷ ss) hold = absurd hold
    none_gathered (c ∷ cs) bs none ss hold = absurd (omega arith)

    pub one_gathered : (c : ClientView (RunTerms W) (Share W D))
        (cs us : List (ClientView (RunTerms W) (Share W D))) (r : Share W D)
        (bs ds es : List (Backend W D)) → us ≡ c ∷ cs
        → ((s : Share W D) → c.requested ≡ Some s → R s r) → ds ≡ bs ++ r.backend ∷ []
        → Gathered cs ds es → Gathered us bs es
    one_gathered c cs us r bs ds es is came pushed later ss hold =
        let parts = zip-beside Holds c cs ss (subst (λ (l : List _). ClientsHold l ss) is hold) in
        let others = later parts.1 parts.4 in (
          r ∷ others.0,
          subst (λ (l : List (Share W D)). AllZip R l (r ∷ others.0)) (sym parts.2)
              (came parts.0 parts.3, others.1),
          others.2
              ∙ (ap (λ (l : List (Backend W D)). l ++ map share_backend others.0) pushed
              ∙ append_assoc bs (r.backend ∷ []) (map share_backend others.0)),
        )

module _ {W D : Type 0} (m : DiskGhosts D) (world : WorldGhosts W) (t : TableView)
    (q : QueueView) where
  -- the last of the backends that stay may go out without a job
  pub may_go_out : (bs ds es gs : List (Backend W D)) (s : Share W D) → s.count ≡ 0
      → BackendsMayGoOut m world t q bs → bs ≡ ds ++ gs → ds ≡ es ++ s.backend ∷ []
      → ShareMayBeListed m world t q s
  may_go_out bs ds es gs s none may split popped = record {
    is = one (IsBackend m world t q) may.backends;
    room = subst (λ (n : ℕ). ActorHasRoom (64 * n) s.backend.disk_actor.actor) (sym none)
        (one (λ (b : Backend W D). ActorHasRoom 0 b.disk_actor.actor) may.room);
    fits = omega arith;
    fresh = subst (λ (n : ℕ). All (IsNewJob world.relations) (take n s.jobs.items)) (sym none)
        (All-nil (IsNewJob world.relations));
  }
    where
      one : (P : Backend W D → Type 0) → All P bs → P s.backend
      one P all = (all_last s.backend es ds popped P
          (all_front P ds gs (subst (λ (l : List (Backend W D)). All P l) split all))).1
