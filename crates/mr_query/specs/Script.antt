-- The text of a script: a query's word on each line.
use Rattle.std.specs.Prelude.{ℕ, ◌^◌, ◌≤◌, List, [], ◌∷◌, ◌++◌, length, All, Result, Ok, Err, ⊤}
use Rattle.mr_record.specs.declared.text_fault.TextErr.{TextErr}
use Rattle.mr_record.specs.declared.text_fault.TextErr.TheVariants as errors
use Rattle.mr_record.specs.declared.text_fault.TextFault.{TextFault}
use Rattle.mr_record.specs.declared.text_fault.TextRule.{TextRule}
use Rattle.mr_record.specs.declared.text_fault.TextRule.TheVariants as rules
use Rattle.mr_record.specs.Lines.{lines_of}
use Rattle.mr_record.specs.LineTexts.{Reader, text_by, values_after, IsFirstFaultBy}
use Rattle.mr_query.specs.declared.query.Query.{Query}
use Rattle.mr_query.specs.declared.query.QueryFault.{QueryFault}
use Rattle.mr_query.specs.Word.{IsQuery, query_of, word_of}

-- ---- the one spelling of a script

-- the most lines of a script
abbrev pub script_limit : ℕ
script_limit = 2 ^ 16

-- queries that one script may hold
pub record IsScript (queries : List Query) : Type 0 where
  pub each : All IsQuery queries
  pub count : length queries ≤ script_limit

-- ---- what a text spells

-- whatever is wrong with a word, it breaks one rule
abbrev pub as_rule : Result Query QueryFault → Result Query TextRule
as_rule (Ok q) = Ok q
as_rule (Err fault) = Err rules.Query

-- the query of a line without its line feed, else the rule that it breaks
abbrev pub query_of_line : List ℕ → Result Query TextRule
query_of_line line = as_rule (query_of line)

-- how the lines of a text spell queries
abbrev pub query_lines : Reader Query
query_lines =
    record
    { limit = script_limit; first = 1; read = λ earlier. query_of_line; spell = word_of }

-- the words of the queries, each with a line feed
unfoldable pub script_of : List Query → List ℕ
script_of queries = text_by query_lines queries

-- the queries of a text in order, else its fault
abbrev pub queries_of_text : List ℕ → Result (List Query) TextFault
queries_of_text text = values_after query_lines [] (lines_of text)

-- the refusal is the first fault of the text, or memory ran out
abbrev pub IsScriptRefusal : List ℕ → TextErr → Type 0
IsScriptRefusal text (errors.Text fault) = IsFirstFaultBy query_lines IsScript (lines_of text) fault
IsScriptRefusal text errors.NoMemory = ⊤
