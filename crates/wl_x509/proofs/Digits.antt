-- Times are read as they are written, and every time that is written is read.
use Rattle.std.proofs.Common.{◌≡◌, ℕ, ◌+◌, ◌-◌, ◌*◌, ◌/◌, ◌%◌, ◌<◌, ◌≤◌, ◌&&◌, nat_lt, nat_le, true, if◌then◌else◌, List, [], ◌∷◌, ◌++◌, length, drop, slice_index, Option, Some, None, refl, sym, ap, ◌∙◌, arith, inl, inr, pos, append_assoc}
use Rattle.std.proofs.lemmas.Bool.{cases_lt, cases_eq, cases_Bool, and_parts, leb-true, ltb-true, lt-ltb, le-ltb, le-leb, eq-eqb, ne_eqb}
use Rattle.std.proofs.lemmas.List.{drop_more, drop_all, get_or-drop}
use Rattle.jiff_core.specs.Calendar.{days_in_month}
use Rattle.wl_x509.proofs.Common.{short_time, long_time, TimeForm, utc, generalized, CertTime, time_text, IsTimeOf}
use Rattle.wl_x509.specs.Times.{◌>>?◌, is_digit, two_at, is_day, is_clock, unix_seconds, clock_at}
use Rattle.wl_x509.specs.Certificates.{two_digits, year_digits, IsYearOf, text_behind_year}
use Rattle.wl_x509.proofs.Encodings.{two_more}

-- ---- what is read

some_then : {A B : Type 0} {C : Type 0} (o : Option A) (f : A → Option B) (y : B) → (o >>? f) ≡ Some y → ((x : A) → o ≡ Some x → f x ≡ Some y → C) → C
some_then (Some x) f y e go = go x refl e
some_then None f y e go = absurd (cc)

digit_between : (b : ℕ) → is_digit b ≡ true → (48 ≤ b) × (b ≤ 57)
digit_between b h =
    let parts = and_parts (nat_le 48 b) (nat_le b 57) h in
    (leb-true 48 b parts.0, leb-true b 57 parts.1)

-- two digits stand at a place
two_found : (text : List ℕ) (at next n : ℕ) → next ≡ at + 2 → at + 1 < length text → two_at text at ≡ Some n → (n < 100) × (drop at text ≡ two_digits n ++ drop next text)
unfolding two_at
two_found text at next n place inside e =
    let tens = slice_index text at in
    let ones = slice_index text (at + 1) in
    elim (cases_Bool (is_digit tens && is_digit ones)) [
      | inr other ↦ absurd (let wrong : None ≡ Some n = (rw other at e) in cc)
      | inl are ↦
          let is : 10 * (tens - 48) + (ones - 48) ≡ n = (let some : Some (10 * (tens - 48) + (ones - 48)) ≡ Some n = (rw are at e) in cc) in
          let both = and_parts (is_digit tens) (is_digit ones) are in
          let high = digit_between tens both.0 in
          let low = digit_between ones both.1 in
          let first : 48 + n / 10 ≡ tens = omega arith in
          let second : 48 + n % 10 ≡ ones = omega arith in
          (omega arith, rw (first, second, place) (two_more text at inside))
    ]

-- `MMDDHHMMSSZ` stands after a year
record IsClock (year : ℕ) (text : List ℕ) (seconds : ℕ) : Type 0 where
  month : ℕ
  day : ℕ
  hour : ℕ
  minute : ℕ
  second : ℕ
  spelled : text ≡ two_digits month ++ two_digits day ++ two_digits hour ++ two_digits minute ++ two_digits second ++ 90 ∷ []
  real : unix_seconds year month day hour minute second ≡ Some seconds

clock_found : (year : ℕ) (text : List ℕ) (at seconds : ℕ) → length text ≡ at + 11 → clock_at year text at ≡ Some seconds → IsClock year (drop at text) seconds
unfolding clock_at
clock_found year text at seconds size e =
    some_then (two_at text at) _ seconds e (λ month read_month behind_month.
    some_then (two_at text (at + 2)) _ seconds behind_month (λ day read_day behind_day.
    some_then (two_at text (at + 4)) _ seconds behind_day (λ hour read_hour behind_hour.
    some_then (two_at text (at + 6)) _ seconds behind_hour (λ minute read_minute behind_minute.
    some_then (two_at text (at + 8)) _ seconds behind_minute (λ second read_second behind_second.
    let one = two_found text at (at + 2) month refl (omega arith) read_month in
    let two = two_found text (at + 2) (at + 4) day (omega arith) (omega arith) read_day in
    let three = two_found text (at + 4) (at + 6) hour (omega arith) (omega arith) read_hour in
    let four = two_found text (at + 6) (at + 8) minute (omega arith) (omega arith) read_minute in
    let five = two_found text (at + 8) (at + 10) second (omega arith) (omega arith) read_second in
    elim (cases_eq (slice_index text (at + 10)) 90) [
      | inr other ↦ absurd (let wrong : None ≡ Some seconds = (rw (ne_eqb (slice_index text (at + 10)) 90 other) at behind_second) in cc)
      | inl z ↦
          let none : drop (at + 10 + 1) text ≡ [] = drop_all (at + 10 + 1) text (omega arith) in
          let last : drop (at + 10) text ≡ 90 ∷ [] = drop_more text (at + 10) 0 (omega arith) ∙ rw (z, none) refl in
          record {
            month = month;
            day = day;
            hour = hour;
            minute = minute;
            second = second;
            spelled = rw (one.1, two.1, three.1, four.1, five.1, last) refl;
            real = rw (eq-eqb (slice_index text (at + 10)) 90 z) at behind_second;
          }
    ])))))

-- a text is the one of a time
pub record IsTimeText (form : TimeForm) (text : List ℕ) (seconds : ℕ) : Type 0 where
  pub time : CertTime
  pub form_is : time.form ≡ form
  pub spelled : text ≡ time_text time
  pub at_seconds : IsTimeOf time seconds

text_so : (form : TimeForm) (text front rest : List ℕ) (year seconds : ℕ) → IsYearOf form year → front ≡ year_digits form year → text ≡ front ++ rest
    → IsClock year rest seconds → IsTimeText form text seconds
text_so form text front rest year seconds fits digits parts clock =
    record {
      time = record { form = form; year = year; month = clock.month; day = clock.day; hour = clock.hour; minute = clock.minute; second = clock.second };
      form_is = refl;
      spelled = parts ∙ rw (digits, clock.spelled) (simp append_assoc);
      at_seconds = record { year = fits; real = clock.real };
    }

pub short_found : (text : List ℕ) (seconds : ℕ) → short_time text ≡ Some seconds → IsTimeText utc text seconds
unfolding short_time
short_found text seconds e =
    elim (cases_eq (length text) 13) [
      | inr other ↦ absurd (let wrong : None ≡ Some seconds = (rw (ne_eqb (length text) 13 other) at e) in cc)
      | inl size ↦ some_then (two_at text 0) (λ (last : ℕ). clock_at (if nat_lt last 50 then 2000 + last else 1900 + last) text 2) seconds (rw (eq-eqb (length text) 13 size) at e) (λ last read behind.
          let digits = two_found text 0 2 last refl (omega arith) read in
          elim (cases_lt last 50) [
            | inl late ↦
                let year_is : (2000 + last) % 100 ≡ last = omega arith in
                text_so utc text (two_digits last) (drop 2 text) (2000 + last) seconds (omega arith, omega arith) (rw year_is refl) digits.1 (clock_found (2000 + last) text 2 seconds size (rw (lt-ltb last 50 late) at behind))
            | inr early ↦
                let year_is : (1900 + last) % 100 ≡ last = omega (arith, digits.0) in
                text_so utc text (two_digits last) (drop 2 text) (1900 + last) seconds (omega arith, omega (arith, digits.0)) (rw year_is refl) digits.1 (clock_found (1900 + last) text 2 seconds size (rw (le-ltb last 50 early) at behind))
          ])
    ]

pub long_found : (text : List ℕ) (seconds : ℕ) → long_time text ≡ Some seconds → IsTimeText generalized text seconds
unfolding long_time
long_found text seconds e =
    elim (cases_eq (length text) 15) [
      | inr other ↦ absurd (let wrong : None ≡ Some seconds = (rw (ne_eqb (length text) 15 other) at e) in cc)
      | inl size ↦ some_then (two_at text 0) (λ (century : ℕ). two_at text 2 >>? λ last. clock_at (100 * century + last) text 4) seconds (rw (eq-eqb (length text) 15 size) at e) (λ century read_century behind_century.
          some_then (two_at text 2) (λ (last : ℕ). clock_at (100 * century + last) text 4) seconds behind_century (λ last read_last behind.
          let first = two_found text 0 2 century refl (omega arith) read_century in
          let second = two_found text 2 4 last refl (omega arith) read_last in
          let year = 100 * century + last in
          let century_is : year / 100 ≡ century = omega (arith, second.0) in
          let last_is : year % 100 ≡ last = omega (arith, second.0) in
          text_so generalized text (two_digits century ++ two_digits last) (drop 4 text) year seconds (omega (arith, first.0, second.0)) (rw (century_is, last_is) refl) (first.1 ∙ rw second.1 refl) (clock_found year text 4 seconds size behind)))
    ]

-- ---- every time is read

is_a_digit : (n : ℕ) → n < 10 → is_digit (48 + n) ≡ true
is_a_digit n lt = rw (le-leb 48 (48 + n) (omega arith), le-leb (48 + n) 57 (omega arith)) refl

two_again : (text : List ℕ) (at next n : ℕ) → next ≡ at + 1 → n < 100 → slice_index text at ≡ 48 + n / 10 → slice_index text next ≡ 48 + n % 10 → two_at text at ≡ Some n
unfolding two_at
two_again text at next n place lt tens ones =
    let whole : 10 * (48 + n / 10 - 48) + (48 + n % 10 - 48) ≡ n = omega arith in
    rw (← place, tens, ones, is_a_digit (n / 10) (omega arith), is_a_digit (n % 10) (omega arith), whole) refl

-- the numbers of a real date and time have two digits
record AreSmall (month day hour minute second : ℕ) : Type 0 where
  month_small : month < 100
  day_small : day < 100
  hour_small : hour < 100
  minute_small : minute < 100
  second_small : second < 100

month_short : (year : ℕ) (month : ℕ) → days_in_month (pos year) month ≤ 31
month_short year month = grind arith

small : (year month day hour minute second seconds : ℕ) → unix_seconds year month day hour minute second ≡ Some seconds → AreSmall month day hour minute second
unfolding unix_seconds
small year month day hour minute second seconds e =
    elim (cases_Bool (is_day year month day && is_clock hour minute second)) [
      | inr unreal ↦ absurd (let wrong : None ≡ Some seconds = (rw unreal at e) in cc)
      | inl is ↦
          let both = and_parts (is_day year month day) (is_clock hour minute second) is in
          let date = and_parts (nat_le 1 month && nat_le month 12) (nat_le 1 day && nat_le day (days_in_month (pos year) month)) both.0 in
          let months = and_parts (nat_le 1 month) (nat_le month 12) date.0 in
          let days = and_parts (nat_le 1 day) (nat_le day (days_in_month (pos year) month)) date.1 in
          let clock = and_parts (nat_lt hour 24) (nat_lt minute 60 && nat_lt second 60) both.1 in
          let parts = and_parts (nat_lt minute 60) (nat_lt second 60) clock.1 in
          record {
            month_small = omega (arith, leb-true month 12 months.1);
            day_small = omega (arith, leb-true day (days_in_month (pos year) month) days.1, month_short year month);
            hour_small = omega (arith, ltb-true hour 24 clock.0);
            minute_small = omega (arith, ltb-true minute 60 parts.0);
            second_small = omega (arith, ltb-true second 60 parts.1);
          }
    ]

clock_again : (text : List ℕ) (at seconds : ℕ) (time : CertTime) → drop at text ≡ text_behind_year time
    → unix_seconds time.year time.month time.day time.hour time.minute time.second ≡ Some seconds → clock_at time.year text at ≡ Some seconds
unfolding clock_at
clock_again text at seconds time is real =
    let all = small time.year time.month time.day time.hour time.minute time.second seconds real in
    let byte = λ (k : ℕ). sym (get_or-drop at text k 0) ∙ ap (λ (l : List ℕ). slice_index l k) is in
    let start : at + 0 ≡ at = omega arith in
    let month = two_again text at (at + 1) time.month refl all.month_small (rw start at (byte 0)) (byte 1) in
    let day = two_again text (at + 2) (at + 3) time.day (omega arith) all.day_small (byte 2) (byte 3) in
    let hour = two_again text (at + 4) (at + 5) time.hour (omega arith) all.hour_small (byte 4) (byte 5) in
    let minute = two_again text (at + 6) (at + 7) time.minute (omega arith) all.minute_small (byte 6) (byte 7) in
    let second = two_again text (at + 8) (at + 9) time.second (omega arith) all.second_small (byte 8) (byte 9) in
    let z : slice_index text (at + 10) ≡ 90 = byte 10 in
    rw (month, day, hour, minute, second, z) real

year_of_last : (year last : ℕ) → year % 100 ≡ last → IsYearOf utc year → (if nat_lt last 50 then 2000 + last else 1900 + last) ≡ year
year_of_last year last is fits =
    elim (cases_lt last 50) [
      | inl late ↦ rw (lt-ltb last 50 late) (omega (arith, fits))
      | inr early ↦ rw (le-ltb last 50 early) (omega (arith, fits))
    ]

pub short_again : (time : CertTime) (seconds : ℕ) → time.form ≡ utc → IsTimeOf time seconds → short_time (time_text time) ≡ Some seconds
unfolding short_time
short_again time seconds form is =
    let fits : IsYearOf utc time.year = rw form at is.year in
    let last = time.year % 100 in
    let text = two_digits last ++ text_behind_year time in
    let year = year_of_last time.year last refl fits in
    rw form (rw (two_again text 0 1 last refl (omega arith) refl refl, year) (clock_again text 2 seconds time refl is.real))

pub long_again : (time : CertTime) (seconds : ℕ) → time.form ≡ generalized → IsTimeOf time seconds → long_time (time_text time) ≡ Some seconds
unfolding long_time
long_again time seconds form is =
    let fits : IsYearOf generalized time.year = rw form at is.year in
    let century = time.year / 100 in
    let last = time.year % 100 in
    let text = two_digits century ++ two_digits last ++ text_behind_year time in
    let year : 100 * century + last ≡ time.year = omega arith in
    rw form (rw (two_again text 0 1 century refl (omega (arith, fits)) refl refl, two_again text 2 3 last refl (omega arith) refl refl, year) (clock_again text 4 seconds time refl is.real))
