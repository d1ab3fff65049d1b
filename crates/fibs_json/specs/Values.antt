-- The values of the program as values of members.
use Rattle.fibs_json.specs.Json.{Json, string, whole, hundredths, truth, null}
use Rattle.fibs_json.specs.declared.values.Value.{Value}
use Rattle.fibs_json.specs.declared.values.Value.TheVariants as V

abbrev pub json_of : Value → Json
json_of (V.Bytes bytes) = string bytes.now
json_of (V.Whole number) = whole number
json_of (V.Hundredths number) = hundredths number
json_of (V.Truth flag) = truth flag
json_of V.Null = null
