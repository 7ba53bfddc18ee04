-- The lines of faults, one after the other.
use Rattle.std.proofs.Common.{◌≡◌, ℕ, ◌+◌, ◌<◌, List, [], ◌∷◌, ◌++◌, refl, sym, ◌∙◌, ap}
use Rattle.std.proofs.Common.{length, take, drop, append_assoc, get_or}
use Rattle.std.proofs.Math.Seq.{take-append_seam}
use Rattle.std.specs.List.{flat_map}
use Rattle.std.proofs.lemmas.List.{append-nil, take-append-drop, take_more}
use Rattle.std.proofs.lemmas.List.Concat.{flat_map-append}
use Rattle.page_faults.specs.declared.fault.Fault.{Fault}
use Rattle.page_faults.specs.FaultsText.{fault_line, fault_lines}

pub lines_through : (a l b c : List ℕ) → b ≡ a ++ l → take (length b) c ≡ b
    → take (length a) c ≡ a
lines_through a l b c more prefix =
    let rest = drop (length b) c in
    let whole = sym (take-append-drop (length b) c)
    ∙ ap (λ (list : List ℕ). list ++ rest) (prefix ∙ more)
    ∙ append_assoc a l rest in
    ap (take (length a)) whole ∙ take-append_seam a (l ++ rest)

pub fault_lines-none : (relation block : ℕ) (faults : List Fault)
    → fault_lines relation block (take 0 faults) ≡ []
unfolding fault_lines
fault_lines-none relation block faults = refl

fault_lines-append : (relation block : ℕ) (some : List Fault) (fault : Fault)
    → fault_lines relation block (some ++ fault ∷ [])
    ≡ fault_lines relation block some ++ fault_line relation block fault
unfolding fault_lines
fault_lines-append relation block some fault =
    flat_map-append (fault_line relation block) some (fault ∷ [])
    ∙ ap (λ (text : List ℕ). flat_map (fault_line relation block) some ++ text)
    (append-nil (fault_line relation block fault))

fault_lines-more : (relation block : ℕ) (faults : List Fault) (index : ℕ) (fault : Fault)
    → take (index + 1) faults ≡ take index faults ++ fault ∷ []
    → fault_lines relation block (take index faults) ++ fault_line relation block fault
    ≡ fault_lines relation block (take (index + 1) faults)
fault_lines-more relation block faults index fault more =
    sym (ap (fault_lines relation block) more
    ∙ fault_lines-append relation block (take index faults) fault)

pub fault_lines-all : (relation block : ℕ) (faults : List Fault) (index : ℕ)
    → take index faults ≡ faults
    → fault_lines relation block (take index faults) ≡ fault_lines relation block faults
fault_lines-all relation block faults index all = ap (fault_lines relation block) all

-- with the line of one fault more
pub lines_step : (relation block : ℕ) (faults : List Fault) (index : ℕ) (d : Fault)
    (old text new : List ℕ) → index < length faults
    → new ≡ text ++ fault_line relation block (get_or faults index d)
    → text ≡ old ++ fault_lines relation block (take index faults)
    → new ≡ old ++ fault_lines relation block (take (index + 1) faults)
lines_step relation block faults index d old text new below more are =
    let fault = get_or faults index d in
    more
    ∙ ap (λ (bytes : List ℕ). bytes ++ fault_line relation block fault) are
    ∙ append_assoc old (fault_lines relation block (take index faults))
    (fault_line relation block fault)
    ∙ ap (λ (bytes : List ℕ). old ++ bytes)
    (fault_lines-more relation block faults index fault (take_more faults index d below))
