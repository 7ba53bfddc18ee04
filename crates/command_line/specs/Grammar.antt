-- The command line `[options] FILE...`, as `clap` sees it.
use Rattle.std.specs.Prelude.{true, List, [], ◌∷◌, ◌++◌, Some, codes, map}
use Rattle.clap.specs.Words.{App, Rule, Text, new_rule}
use Rattle.clap.specs.Simple.{new_shape}
use Rattle.clap.specs.declared.builder.action.ArgAction.TheVariants.{Set, SetTrue, Append}

-- an option with a value, `--name V` or `--name=V`
abbrev pub option_rule : Text → Rule
option_rule name = record (new_rule name) { long = Some name; action = Some Set }

-- a flag, `--name`
abbrev pub flag_rule : Text → Rule
flag_rule name = record (new_rule name) { long = Some name; action = Some SetTrue }

-- the other words: they may stand between the options
abbrev pub file_rule : Rule
file_rule = record (new_rule (codes "FILE")) { action = Some Append }

-- the command before its arguments, which has no words for help and version
abbrev pub without_arguments : App
without_arguments = record {
  top = record (new_shape (codes "aioscan")) {
    no_binary_name = true;
    disable_help_flag = true;
    disable_version_flag = true;
  };
  subs = [];
}

-- the command with these arguments behind its own
abbrev pub with_rules : App → List Rule → App
with_rules app rules = record app { top = record app.top { rules = app.top.rules ++ rules } }

-- the options with a value
abbrev pub option_names : List Text
option_names =
    codes "method" ∷ codes "workers" ∷ codes "backends" ∷ codes "combine" ∷ codes "concurrency"
    ∷ codes "handles" ∷ codes "buffers" ∷ codes "from" ∷ codes "to" ∷ codes "make"
    ∷ codes "map" ∷ codes "skip" ∷ codes "end-lsn" ∷ codes "next-xid" ∷ []

-- the flags
abbrev pub flag_names : List Text
flag_names =
    codes "batch" ∷ codes "full" ∷ codes "stats" ∷ codes "checksums" ∷ codes "zero-damaged"
    ∷ codes "tuples" ∷ codes "check" ∷ codes "show-damaged" ∷ []

-- the command
unfoldable pub the_command : App
the_command = with_rules without_arguments
    ((map option_rule option_names ++ map flag_rule flag_names) ++ file_rule ∷ [])
