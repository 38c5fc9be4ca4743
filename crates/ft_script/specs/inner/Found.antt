-- What the parser of command lines finds. All of it is our own choice.
use Rattle.std.specs.Prelude.{[], option_map, option_and_then, unwrap_or, codes}
use Rattle.clap.specs.Words.{first_value, found_of, matched_of, raw_values}
use Rattle.clap.specs.declared.parser.matches.ArgMatches.{ArgMatches}
use Rattle.ft_script.specs.Words.{Named, script_at}

-- what the parser of command lines found under the two names
abbrev pub found_by : ArgMatches → Named
found_by matches = record {
  script = option_and_then script_at (first_value (found_of matches) (codes "SCRIPT"));
  traces = unwrap_or (option_map raw_values (matched_of (found_of matches) (codes "TRACE"))) [];
}
