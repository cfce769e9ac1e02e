-- What calls of the library made, read by other calls, and within the limits of the program by runs and lines.
use Rattle.std.proofs.Common.{◌∙◌, sym, ap, []}
use Rattle.managers.specs.Standard.{standard_table}
use Rattle.tinkey_readable.proofs.AnywhereLemmas.{call_makes_seal}
use Rattle.tinkey_readable.proofs.CallLemmas.{call_dopens, call_dseals, call_opens, call_tags, call_verifies, called_answer, calls_give}
use Rattle.tinkey_readable.specs.Anywhere.{DopensAnywhere, OpensAnywhere, VerifiesAnywhere, by_call}
use Rattle.tinkey_readable.specs.LibraryTexts.{LibraryTagsVerify, LibraryTextsDopen, LibraryTextsOpen}
use Rattle.tinkey_session.specs.Laws.{KeptDopen, KeptOpen, KeptTag}
use Rattle.tinkey_words.specs.Words.{to_dopen, to_dseal, to_open, to_seal, to_tag, to_verify}
use Rattle.wrapped_prims.specs.Answers.{open_answer}

pub library_texts_open : KeptOpen → OpensAnywhere → LibraryTextsOpen
library_texts_open kept anywhere ad plain sealed prefix r is was =
    let m = call_makes_seal was.keys ad plain sealed was.call was.asks was.takes (called_answer (to_seal ad) plain sealed r was) in (
      (λ keys ready handle same. calls_give (to_open ad) keys ready sealed plain handle
          (call_opens keys ad sealed plain (ap (λ c. open_answer keys standard_table c ad) (sym m.bytes) ∙ kept was.keys keys r prefix plain ad m.random m.made same was.primary is m.is))),
      (λ short. anywhere ad plain sealed prefix r is (by_call was short)),
    )

pub library_texts_dopen : KeptDopen → DopensAnywhere → LibraryTextsDopen
library_texts_dopen kept anywhere ad plain sealed prefix r is was =
    let m = call_dseals was.keys ad plain sealed was.call was.asks was.takes (called_answer (to_dseal ad) plain sealed r was) in (
      (λ keys ready handle same. calls_give (to_dopen ad) keys ready sealed plain handle
          (call_dopens keys ad sealed plain (kept was.keys keys r prefix plain ad sealed same was.primary is m))),
      (λ short. anywhere ad plain sealed prefix r is (by_call was short)),
    )

pub library_tags_verify : KeptTag → VerifiesAnywhere → LibraryTagsVerify
library_tags_verify kept anywhere tag body r was =
    let m = call_tags was.keys body tag was.call was.asks was.takes (called_answer to_tag body tag r was) in (
      (λ keys ready handle has. calls_give (to_verify tag) keys ready body [] handle
          (call_verifies keys tag body (kept was.keys keys r tag body has was.primary m))),
      (λ short. anywhere tag body r (by_call was short)),
    )
