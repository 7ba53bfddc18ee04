-- A ring and the I/Os whose reads are in it.
use Rattle.std.proofs.Common.{◌≡◌, ◌≢◌, ℕ, ◌≤◌, List, [], ◌∷◌, ◌++◌, map, length, take, Option}
use Rattle.std.proofs.Common.{Some, None, Result, Ok, Err, refl, sym, ap, ◌∙◌, subst, ⊎_elim, arith}
use Rattle.std.proofs.lemmas.List.{map-append, length-take}
use Rattle.std.specs.Prelude.{option_map, cond}
use Rattle.std.specs.List.{length_refill}
use Rattle.page_check.specs.Told.{Told}
use Rattle.aio_disk.specs.Counts.{CountRose, count_plus, HasCause}
use Rattle.aio_disk.specs.Disk.{AnswersPages}
use Rattle.aio_word.specs.declared.WaitRef.{WaitRef}
use Rattle.read_callbacks.specs.declared.chain.Raw.{Raw}
use Rattle.read_callbacks.specs.declared.chain.Raw.TheVariants.{Failed}
use Rattle.aio_callback.specs.ReadIoView.{ReadIoView, IsToldRead, HasAnswer, record_aim, with_pages}
use Rattle.aio_callback.specs.ReadIoView.{number_of_id}
use Rattle.aio_callback.proofs.FirstPagesRead.{answered_by}
use Rattle.method_ring.specs.declared.ring.Entry.{Entry}
use Rattle.method_ring.specs.Pending.{pending_entry, without_entry, IsFilledBy}
use Rattle.method_ring.specs.ClaimedIos.{ClaimedIo, claimed_with_number, without_claimed}
use Rattle.method_ring.specs.ClaimedIos.{claimed_entry, NumbersBelow, IsReadableRecord}
use Rattle.method_ring.specs.Group.{PendingReadsClaimed, PickedFrom, raw_answer}
use Rattle.method_ring.proofs.NumberedLookup.{entry-of-held, without-entry-of-held, none-pending}
use Rattle.method_ring.proofs.NumberedLookup.{in-held, in-without, in-pushed}

module _ (pending : List Entry) (n : ℕ) (held : List ClaimedIo) (j : PendingReadsClaimed pending n
    held)
  where
    pub new-number : NumbersBelow (length held) held → pending_entry (length held) pending ≡ None
    new-number below = ap (λ es. pending_entry (length held) es) j.pending_is
        ∙ none-pending (length held) held below

    pub joined-push : (pending' : List Entry) (n' : ℕ) (x : ClaimedIo)
        → pending' ≡ pending ++ claimed_entry x ∷ [] → n' ≡ n → IsReadableRecord n x.1.1
        → PendingReadsClaimed pending' n' (held ++ x ∷ [])
    joined-push pending' n' x is same fresh = record {
      pending_is = is ∙ (ap (λ es. es ++ claimed_entry x ∷ []) j.pending_is
          ∙ sym (map-append claimed_entry held (x ∷ [])));
      unread = λ y i. subst (λ (z : ℕ). IsReadableRecord z y.1.1) (sym same) (⊎_elim
          (λ old. j.unread y old)
          (λ (e : x ≡ y). subst (λ (z : ClaimedIo). IsReadableRecord n z.1.1) e fresh)
          (in-pushed held x y i));
    }

    pub joined-without : (pending' : List Entry) (n' user : ℕ) → pending' ≡ without_entry user pending
        → n' ≡ n → PendingReadsClaimed pending' n' (without_claimed user held)
    joined-without pending' n' user is same = record {
      pending_is = is ∙ (ap (λ es. without_entry user es) j.pending_is
          ∙ without-entry-of-held user held);
      unread = λ y i. subst (λ (z : ℕ). IsReadableRecord z y.1.1) (sym same)
          (j.unread y (in-without user held y i));
    }

    pub nothing-held : pending ≡ [] → held ≡ []
    nothing-held e = by held (sym j.pending_is ∙ e)
      where
        by : (hs : List ClaimedIo) → map claimed_entry hs ≡ [] → hs ≡ []
        by [] e = refl
        by (h ∷ hs) e = absurd (cc)

    pub entry-found : (user : ℕ) (x : ClaimedIo) → claimed_with_number user held ≡ Some x
        → pending_entry user pending ≡ Some (claimed_entry x)
    entry-found user x is = ap (λ es. pending_entry user es) j.pending_is
        ∙ (entry-of-held user held ∙ ap (λ o. option_map claimed_entry o) is)

    pub is-held : (user : ℕ) → pending_entry user pending ≢ None → claimed_with_number user held
        ≢ None
    is-held user ne e = ne (ap (λ es. pending_entry user es) j.pending_is
        ∙ (entry-of-held user held ∙ ap (λ o. option_map claimed_entry o) e))

    pub unread-held : (user : ℕ) (x : ClaimedIo) → claimed_with_number user held ≡ Some x
        → IsReadableRecord n x.1.1
    unread-held user x is = j.unread x (in-held user held x is)

pub filled-by : (o : Option Entry) (e : Entry) (pages : ℕ) → o ≡ Some e → pages ≡ e.count
    → IsFilledBy o pages
filled-by o e pages is count = subst (λ (z : Option Entry). IsFilledBy z pages) (sym is) count

-- the pages of a read change nothing of what it is aimed at
aim-read : (r : ReadIoView) (pages : List (List ℕ)) → record_aim (with_pages r pages) ≡ record_aim r
aim-read r pages =
    ap (λ (n : ℕ). n ∷ r.relation ∷ r.first ∷ r.count ∷ cond r.checksums 1 0
    ∷ map number_of_id r.ids)
    (sym (length_refill (length r.pages) r.pages pages refl))

told-read : {E : Type 0} (told : Option Told) (r : ReadIoView) (res : Result ℕ E)
    (pages : List (List ℕ)) → length pages ≡ r.count
    → AnswersPages told r.relation r.first res pages → IsToldRead told r (raw_answer res) pages
told-read told r (Ok n) pages size a = (subst (λ (z : ℕ). n ≤ z) size a.0, a.1)
told-read told r (Err e) pages size a = tt

failed-read : {E : Type 0} (before now : ℕ) (res : Result ℕ E) → HasCause before now res
    → raw_answer res ≡ Failed → CountRose before now
failed-read before now (Ok n) cause e = absurd (cc)
failed-read before now (Err x) cause e = cause.failed

taken-fits : (n : ℕ) (pages : List (List ℕ)) → length (take n pages) ≡ n → n ≤ length pages
taken-fits n pages e = let a = length-take n pages in omega arith

-- what was picked, with the answer of its read
pub picked-from : {E : Type 0} (told : Option Told) (held held' : List ClaimedIo) (user : ℕ)
    (x : ClaimedIo)
    (pages : List (List ℕ)) (res : Result ℕ E) (raw : Raw) (c : WaitRef × ReadIoView)
    (reads reads' faults faults' : ℕ) → claimed_with_number user held ≡ Some x
    → held' ≡ without_claimed user held → c.0 ≡ x.1.0
    → c.1 ≡ record (with_pages x.1.1 pages) { raw = Some raw } → raw ≡ raw_answer res
    → length (take x.1.1.count x.1.1.pages) ≡ x.1.1.count → length pages ≡ x.1.1.count
    → AnswersPages told x.1.1.relation x.1.1.first res pages → reads' ≡ count_plus 1 reads
    → HasCause faults faults' res
    → PickedFrom told held held' c raw reads reads' faults faults'
picked-from told held held' user x pages res raw c reads reads' faults faults' taken left named is
    same room size answers read cause = record {
      user = user;
      from = x;
      was_claimed = taken;
      others = left;
      reference_is = named;
      aim = ap record_aim is ∙ aim-read x.1.1 pages;
      label = ap (λ (r : ReadIoView). r.label) is;
      aimed = ap (λ (r : ReadIoView). r.aimed) is;
      relation = ap (λ (r : ReadIoView). r.relation) is;
      raw_is = ap (λ (r : ReadIoView). r.raw) is;
      has_answer = subst (λ (r : ReadIoView). HasAnswer told r) (sym is)
          (answered_by told x.1.1 raw pages size (taken-fits x.1.1.count x.1.1.pages room)
          (subst (λ (z : Raw). IsToldRead told x.1.1 z pages) (sym same)
          (told-read told x.1.1 res pages size answers)));
      read_counted = read;
      faults_not_reduced = cause.later;
      failure_counted = λ e. failed-read faults faults' res cause (sym same ∙ e);
    }
