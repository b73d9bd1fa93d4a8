-- What the words of a call ask for.
use Rattle.std.specs.Prelude.{ℕ, Bool, true, false, ◌+◌, ◌*◌, ◌-◌, ◌<◌, ◌≤◌, ◌^◌, ◌&&◌, List, [], ◌∷◌, Option, None, Some, codes, decimal, length, nat_eq, nat_le, option_and_then, option_map, if◌then◌else◌}
use Rattle.class_layout.specs.Names.{same_name}
use Rattle.model_numbers.specs.Numbers.{default_regions, most_regions}
use Rattle.script_lang.specs.Numbers.{digits_number, number_up_to}
use Rattle.artheap_top.specs.declared.words.Job.{Job}
use Rattle.artheap_top.specs.declared.words.Job.TheVariants as job

-- the number that a word is: the decimal text of a number from `least` to `most`
abbrev pub number_within : ℕ → ℕ → List ℕ → Option ℕ
number_within least most word =
    let n = digits_number word in
    if same_name (decimal n) word && nat_le least n && nat_le n most then Some n else None

-- `--regions N`, or nothing
abbrev pub option_regions : List (List ℕ) → Option ℕ
option_regions [] = Some default_regions
option_regions (word ∷ []) = None
option_regions (word ∷ number ∷ []) = if same_name word (codes "--regions") then number_within 1 most_regions number else None
option_regions (word ∷ number ∷ more ∷ words) = None

-- a soak of these numbers, where all three are there
abbrev pub soak_of : Option ℕ → Option ℕ → Option ℕ → Option Job
soak_of (Some start) (Some count) (Some regions) = Some (job.Soak start count regions)
soak_of (Some start) (Some count) None = None
soak_of (Some start) None regions = None
soak_of None count regions = None

-- `START COUNT`, and what may follow
abbrev pub soak_job : List (List ℕ) → Option Job
soak_job [] = None
soak_job (start ∷ []) = None
soak_job (start ∷ count ∷ words) = soak_of (number_within 0 2147483647 start) (number_within 0 1000000 count) (option_regions words)

-- `--time T`, or nothing
abbrev pub option_time : List (List ℕ) → Option ℕ
option_time [] = Some 0
option_time (word ∷ []) = None
option_time (word ∷ number ∷ []) = if same_name word (codes "--time") then number_up_to 18446744073709551615 number else None
option_time (word ∷ number ∷ more ∷ words) = None

-- a run with this number of regions and this time, where both are there
abbrev pub run_of : Option ℕ → Option ℕ → Option Job
run_of (Some regions) (Some time) = Some (job.Run regions time)
run_of (Some regions) None = None
run_of None time = None

-- `[--regions N] [--time T]`
abbrev pub run_job : List (List ℕ) → Option Job
run_job [] = run_of (Some default_regions) (Some 0)
run_job (word ∷ []) = None
run_job (word ∷ number ∷ words) =
    if same_name word (codes "--regions") then run_of (number_within 1 most_regions number) (option_time words)
    else run_of (Some default_regions) (option_time (word ∷ number ∷ words))

-- a reading, where no word follows
abbrev pub read_of : List (List ℕ) → Option Job
read_of [] = Some job.Read
read_of (word ∷ words) = None

-- a conversion, where no word follows
abbrev pub convert_of : List (List ℕ) → Option Job
convert_of [] = Some job.Convert
convert_of (word ∷ words) = None

-- the number that a digit of base 16 stands for, in lower case
abbrev pub digit_value : ℕ → Option ℕ
digit_value digit =
    if nat_le 0x30 digit && nat_le digit 0x39 then Some (digit - 0x30)
    else if nat_le 0x61 digit && nat_le digit 0x66 then Some (digit - 0x61 + 10) else None

-- a number with these digits behind it
abbrev pub with_digits : ℕ → List ℕ → Option ℕ
with_digits number [] = Some number
with_digits number (digit ∷ digits) = option_and_then (λ value. with_digits (number * 16 + value) digits) (digit_value digit)

-- the identifier that a word tells: 8 digits of base 16
abbrev pub id_of : List ℕ → Option ℕ
id_of word = if nat_eq (length word) 8 then with_digits 0 word else None

-- `ID`
abbrev pub path_of : List (List ℕ) → Option Job
path_of [] = None
path_of (word ∷ []) = option_map (λ id. job.Path id) (id_of word)
path_of (word ∷ more ∷ words) = None

-- the job that the words ask for: `run [--regions N] [--time T]`, `read`, `path ID`, `convert` or
-- `soak START COUNT [--regions N]`
abbrev pub job_of : List (List ℕ) → Option Job
job_of [] = None
job_of (word ∷ words) =
    if same_name word (codes "run") then run_job words
    else if same_name word (codes "read") then read_of words
    else if same_name word (codes "path") then path_of words
    else if same_name word (codes "convert") then convert_of words
    else if same_name word (codes "soak") then soak_job words else None

-- the job is a run
abbrev pub asks_run : Option Job → Bool
asks_run None = false
asks_run (Some (job.Run regions time)) = true
asks_run (Some job.Read) = false
asks_run (Some (job.Path id)) = false
asks_run (Some job.Convert) = false
asks_run (Some (job.Soak start count regions)) = false

-- the numbers of a job are within their bounds
abbrev pub IsPossible : Job → Type 0
IsPossible (job.Run regions time) = (1 ≤ regions) × (regions ≤ most_regions) × (time < 2 ^ 64)
IsPossible job.Read = Unit {0}
IsPossible (job.Path id) = Unit {0}
IsPossible job.Convert = Unit {0}
IsPossible (job.Soak start count regions) = (start ≤ 2147483647) × (count ≤ 1000000) × (1 ≤ regions) × (regions ≤ most_regions)
