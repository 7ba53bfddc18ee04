-- Texts that are told on the error stream one after the other.
use Rattle.std.proofs.Common.{◌≡◌, ◌≢◌, ◌≤◌, ℕ, List, [], ◌∷◌, ◌++◌, refl, sym, ◌∙◌, subst, arith}
use Rattle.std.proofs.Common.{append_assoc, append-nil, Bool, true, false}
use Rattle.std.specs.Prelude.{Option, not}
use Rattle.run_report.specs.ErrorLine.{ErrorStream, IsToldOnErr, AppendsErrorText, AppendsWarnings}
use Rattle.run_report.specs.ErrorLine.{error_stream}
use Rattle.run_report.specs.declared.report.Line.{Line}
use Rattle.run_report.specs.declared.report.Line.TheVariants.{Whole}
use Rattle.run_report.proofs.SinkTextsAppend.{SinkGrew-append, SinkGrew-nothing}
use Rattle.run_report.proofs.SinkTextsAppend.{SinkGrewByPrefix-append, SinkGrewByPrefix-more}

no_front : (xs ys : List ℕ) → xs ++ ys ≡ [] → xs ≡ []
no_front [] ys none = refl
no_front (x ∷ xs) ys none = absurd (cc)

no_back : (xs ys : List ℕ) → xs ++ ys ≡ [] → ys ≡ []
no_back [] ys none = none
no_back (x ∷ xs) ys none = absurd (cc)

-- a text that was cut off, so that nothing followed it
pub told_cut : (text more : List ℕ) (line : Line) (b a : Option (List ℕ)) (fb fa : ℕ)
    → line ≢ Whole → IsToldOnErr text line b a fb fa
    → IsToldOnErr (text ++ more) line b a fb fa
told_cut text more line b a fb fa cut told = record {
  whole = λ is. absurd (cut is);
  cut = λ is. (SinkGrewByPrefix-more b a text more (told.cut is).0, (told.cut is).1);
  no_memory = λ is. SinkGrewByPrefix-more b a text more (told.no_memory is);
  silent = λ none. told.silent (no_front text more none);
}

-- a text that was told whole, and the one behind it
pub told_then : (text more : List ℕ) (line : Line) (b m a : Option (List ℕ)) (fb fm fa : ℕ)
    → fb ≤ fm → IsToldOnErr text Whole b m fb fm → IsToldOnErr more line m a fm fa
    → IsToldOnErr (text ++ more) line b a fb fa
told_then text more line b m a fb fm fa later first second =
    let grew = first.whole refl in record {
      whole = λ is. SinkGrew-append b m a text more grew (second.whole is);
      cut = λ is. (
        SinkGrewByPrefix-append b m a text more grew (second.cut is).0,
        (let rose = (second.cut is).1 in omega arith),
      );
      no_memory = λ is. SinkGrewByPrefix-append b m a text more grew (second.no_memory is);
      silent = λ none.
          (let begun = first.silent (no_front text more none) in
          let ended = second.silent (no_back text more none) in
          (ended.0, ended.1 ∙ begun.1, ended.2 ∙ begun.2));
    }

pub shown : (shows : Bool) → not shows ≡ false → shows ≡ true
shown true e = refl
shown false e = absurd (cc)

-- a text that was written behind what was told whole
pub tells_written : (text : List ℕ) (line before : Line) (m a : Option (List ℕ)) (fm fa : ℕ)
    → before ≡ Whole → fm ≤ fa → IsToldOnErr text line m a fm fa
    → AppendsErrorText text (error_stream before m fm) (error_stream line a fa)
tells_written text line before m a fm fa whole later told =
    let P : Line → Type 0 = λ l. AppendsErrorText text (error_stream l m fm) (error_stream line a
    fa) in
    subst P (sym whole) (record {
      later = later;
      more = λ so_far begun faults earlier first.
          told_then so_far text line begun m a faults fm fa earlier first told;
    })

-- and one that was not, since what was told before was cut off
pub tells_cut : (text : List ℕ) (line : Line) (m : Option (List ℕ)) (fm : ℕ) → line ≢ Whole
    → AppendsErrorText text (error_stream line m fm) (error_stream line m fm)
tells_cut text line m fm cut = record {
  later = omega arith;
  more = λ so_far begun faults earlier first.
      told_cut so_far text line begun m faults fm cut first;
}

-- nothing was told
tells_nothing : (s : ErrorStream) → AppendsErrorText [] s s
tells_nothing s = record {
  later = omega arith;
  more = λ so_far begun faults earlier first.
      (let P : List ℕ → Type 0 =
      λ text. IsToldOnErr text s.line begun s.written faults s.faults in
      subst P (sym (append-nil so_far)) first);
}

pub tells_same : (text same : List ℕ) (s t : ErrorStream) → text ≡ same → AppendsErrorText text s t
    → AppendsErrorText same s t
tells_same text same s t is told =
    let P : List ℕ → Type 0 = λ l. AppendsErrorText l s t in subst P is told

-- one text and then another
pub tells_then : (text more : List ℕ) (s t u : ErrorStream) → AppendsErrorText text s t
    → AppendsErrorText more t u
    → AppendsErrorText (text ++ more) s u
tells_then text more s t u first second =
    let late = first.later in
    let later = second.later in record {
      later = omega arith;
      more = λ so_far begun faults earlier told.
          (let P : List ℕ → Type 0 =
          λ l. IsToldOnErr l u.line begun u.written faults u.faults in
          subst P (append_assoc so_far text more)
          (second.more (so_far ++ text) begun faults (omega arith)
          (first.more so_far begun faults earlier told)));
    }

-- nothing was told yet
untold : (b : Option (List ℕ)) (fb : ℕ) → IsToldOnErr [] Whole b b fb fb
untold b fb = record {
  whole = λ _. SinkGrew-nothing b;
  cut = λ is. absurd (cc);
  no_memory = λ is. absurd (cc);
  silent = λ _. (refl, refl, refl);
}

-- all that a run told
pub told_in_all : (text : List ℕ) (line : Line) (b a : Option (List ℕ)) (fb fa : ℕ)
    → AppendsErrorText text (error_stream Whole b fb) (error_stream line a fa)
    → IsToldOnErr text line b a fb fa
told_in_all text line b a fb fa told = told.more [] b fb (omega arith) (untold b fb)

-- warnings and then others
pub warns_then : (P Q R : List ℕ → Type 0) (s t u : ErrorStream)
    → ((v w : List ℕ) → P v → Q w → R (v ++ w)) → AppendsWarnings P s t → AppendsWarnings Q t u
    → AppendsWarnings R s u
warns_then P Q R s t u both first second = record {
  warnings = first.warnings ++ second.warnings;
  tells = tells_then first.warnings second.warnings s t u first.tells second.tells;
  warnings_hold = both first.warnings second.warnings first.warnings_hold second.warnings_hold;
}

-- more is known of the same warnings
pub warns_also : (P Q : List ℕ → Type 0) (s t : ErrorStream) → ((w : List ℕ) → P w → Q w)
    → AppendsWarnings P s t → AppendsWarnings Q s t
warns_also P Q s t also first = record {
  warnings = first.warnings;
  tells = first.tells;
  warnings_hold = also first.warnings first.warnings_hold;
}

-- nothing to warn of
pub warns_none : (P : List ℕ → Type 0) (s : ErrorStream) → P [] → AppendsWarnings P s s
warns_none P s are = record { warnings = []; tells = tells_nothing s; warnings_hold = are }
