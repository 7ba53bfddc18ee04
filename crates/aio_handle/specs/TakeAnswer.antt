-- What a call that looks for the result of an I/O answers.
use Rattle.aio_word.specs.declared.WaitRef.{WaitRef}
use Rattle.aio_handle.specs.declared.tokens.Take.{Take}
use Rattle.aio_handle.specs.declared.tokens.Take.TheVariants.{Ready, NotYet}

-- this holds of the token, where the result was there
abbrev pub IfReady : {R W : Type 0} → Take R W → (WaitRef × R → Type 0) → Type 0
IfReady (Ready token) P = P token
IfReady (NotYet token) P = Unit {0}

-- this holds of the token, where it was not
abbrev pub IfNotYet : {R W : Type 0} → Take R W → (WaitRef → Type 0) → Type 0
IfNotYet (Ready token) P = Unit {0}
IfNotYet (NotYet token) P = P token
