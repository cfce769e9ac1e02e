-- What help and version print, as it is printed; made by tools/words of words.table.
use Rattle.std.specs.Prelude.{ℕ, List, ◌++◌, codes}
use Rattle.tinkey_words.specs.declared.words.help.Topic.{Topic}
use Rattle.tinkey_words.specs.declared.words.help.Topic.TheVariants as topics
use Rattle.tinkey_words.specs.declared.words.names.CommandName.{CommandName}
use Rattle.tinkey_words.specs.declared.words.names.CommandName.TheVariants as commands

-- the list of the commands
unfoldable pub list_text : List ℕ
list_text =
    codes "tinkey makes and changes keysets of Google Tink, and uses their symmetric keys.\n\n"
    ++ codes "  tinkey COMMAND [OPTION VALUE]...\n\n"
    ++ codes "An option is given once, as --option VALUE or --option=VALUE.\n\n"
    ++ codes "Make and change a keyset:\n"
    ++ codes "  create-keyset       makes a keyset of one new key, the primary\n"
    ++ codes "  add-key             adds a new key\n"
    ++ codes "  rotate-keyset       adds a new key, and makes it the primary\n"
    ++ codes "  promote-key         makes an enabled key the primary\n"
    ++ codes "  enable-key          makes a key ENABLED\n"
    ++ codes "  disable-key         makes a key DISABLED: it isn't used, and can be enabled again\n"
    ++ codes "  destroy-key         destroys a key's material for good: what it sealed never opens again\n"
    ++ codes "  delete-key          removes a key for good: what it sealed never opens again\n\n"
    ++ codes "Look at a keyset, and keep it:\n"
    ++ codes "  list-keyset         lists a keyset without key material\n"
    ++ codes "  key-of              shows which keys may have made a sealed text, tag, envelope or stream\n"
    ++ codes "  list-key-templates  lists the names of the templates for new keys\n"
    ++ codes "  convert-keyset      writes a keyset in another form, or under another master\n"
    ++ codes "  wrap-keyset         seals a keyset under another one, the master\n"
    ++ codes "  unwrap-keyset       opens a keyset that was wrapped\n\n"
    ++ codes "Seal and open:\n"
    ++ codes "  seal                seals standard input under the primary key\n"
    ++ codes "  open                opens what any enabled key sealed\n"
    ++ codes "  eseal               seals under a fresh data key, and that key under the keyset: an\n"
    ++ codes "                      envelope\n"
    ++ codes "  eopen               opens an envelope\n"
    ++ codes "  ereseal             opens an envelope's data key, and seals that again under the primary\n"
    ++ codes "                      key\n"
    ++ codes "  dseal               seals deterministically: equal texts give equal bytes\n"
    ++ codes "  dopen               opens what dseal sealed\n"
    ++ codes "  reseal              opens, and seals again under the primary key\n"
    ++ codes "  dreseal             as reseal, of what dseal sealed\n"
    ++ codes "  sseal               seals a stream of any length, in one pass\n"
    ++ codes "  sopen               opens a stream; it is complete only if the exit code is 0\n"
    ++ codes "  sreseal             opens a stream, and seals it again under the primary key, in one pass\n"
    ++ codes "  srange              opens a range of a stream in a file\n\n"
    ++ codes "Tag, verify and derive:\n"
    ++ codes "  tag                 tags standard input under the primary key\n"
    ++ codes "  verify              says whether a tag is valid under any enabled key\n"
    ++ codes "  derive              derives bytes from standard input\n\n"
    ++ codes "Many lines in one run:\n"
    ++ codes "  session             answers lines that seal, open, tag, verify, derive, edit and save\n"
    ++ codes "  selftest            seals, opens and edits many times, and counts the results\n\n"
    ++ codes "More:\n"
    ++ codes "  tinkey help COMMAND   its options, what it reads and gives, its exit codes, an example\n"
    ++ codes "  tinkey help exit      the diagnostic lines: what each means, and what to do next\n"
    ++ codes "  tinkey version        the version\n"

-- the diagnostic lines
unfoldable pub exit_text : List ℕ
exit_text =
    codes "A command that fails prints a line on standard error and ends with an exit code. The line is\n"
    ++ codes "\"tinkey: \" and one of these, listed after their exit codes.\n\n"
    ++ codes "0  done, and no line\n\n"
    ++ codes "1  open failed\n"
    ++ codes "     No ENABLED key of the keyset opens these bytes with these associated data. A second\n"
    ++ codes "     line says under which key they were sealed, by the output prefix in front. If it is\n"
    ++ codes "     DISABLED, enable it first; if it was DESTROYED, nothing opens them any more. If it is\n"
    ++ codes "     ENABLED, give the same --ad; otherwise the bytes are cut or altered. If the bytes name\n"
    ++ codes "     no key, use the keyset that they were sealed under (key-of tries one); it may be that a\n"
    ++ codes "     RAW key of it is DISABLED. Open what seal, dseal, sseal or eseal made with open, dopen,\n"
    ++ codes "     sopen or eopen; an envelope needs a template of its data key's kind. For an encrypted\n"
    ++ codes "     keyset the second line is about the master's keys, or says that the keyset is in clear.\n\n"
    ++ codes "1  verify failed\n"
    ++ codes "     No ENABLED key makes this tag of this input. Give the whole tag with its prefix, in\n"
    ++ codes "     hexadecimal, as tag --hex prints it.\n\n"
    ++ codes "1  no key of the keyset\n"
    ++ codes "     No key of the keyset has the output prefix in front of these bytes, and none is RAW:\n"
    ++ codes "     another keyset sealed them, or they are no sealed text. For an envelope give --as\n"
    ++ codes "     envelope; a stream has no prefix.\n\n"
    ++ codes "1  stream failed at segment {segment}\n"
    ++ codes "     From this segment on the stream is damaged or cut, or the key or the associated data\n"
    ++ codes "     are not the ones it was sealed with; at segment 0 it may be no stream at all. What was\n"
    ++ codes "     written before is authentic; the rest has to come from a copy.\n\n"
    ++ codes "2  usage: word {word}\n"
    ++ codes "     This word is wrong: it is no command, no option of this command, an option that was\n"
    ++ codes "     given before or excludes another one, or a value of the wrong form. Words count from 0,\n"
    ++ codes "     which is the command. If the number equals the word count, a word is missing at the\n"
    ++ codes "     end: a value, or an option that the command requires. A second line says which of these\n"
    ++ codes "     it is. Check the word before, too: if its value was left out, the next word was taken\n"
    ++ codes "     as the value. tinkey help lists the commands, and tinkey help COMMAND a command's\n"
    ++ codes "     options.\n\n"
    ++ codes "2  unknown key template\n"
    ++ codes "     list-key-templates lists the names. AEADs with Poly1305 aren't supported.\n\n"
    ++ codes "2  asymmetric key template\n"
    ++ codes "     Asymmetric keys aren't supported: Tinkey makes them.\n\n"
    ++ codes "2  template is not an AEAD\n"
    ++ codes "     --dek-template is for the data keys of envelopes, which must be AEAD keys, such as\n"
    ++ codes "     those of AES128_GCM.\n\n"
    ++ codes "2  output too long: {asked} over {greatest}\n"
    ++ codes "     The key can derive at most the second number of bytes.\n\n"
    ++ codes "2  range past the end\n"
    ++ codes "     The stream's plaintext is shorter than offset and length together. Ask for less; sopen,\n"
    ++ codes "     piped to wc -c, shows how long it is.\n\n"
    ++ codes "3  bad protobuf at byte {at}\n"
    ++ codes "     The keyset isn't one in the binary form. A second line says which file it is. If it is\n"
    ++ codes "     JSON, give no form, or json; if it is an encrypted keyset, give --master: the second\n"
    ++ codes "     line says so, too. Otherwise it is damaged from about that byte on.\n\n"
    ++ codes "3  not JSON\n"
    ++ codes "     The keyset isn't JSON: it is empty, cut or damaged, or in the binary form. A second\n"
    ++ codes "     line says which file it is, and if it begins in that form, which option to add:\n"
    ++ codes "     --in-format binary, --keyset-format binary, --master-format binary or\n"
    ++ codes "     --new-master-format binary. Without --in, standard input was read.\n\n"
    ++ codes "3  bad JSON member {member}\n"
    ++ codes "     The JSON isn't a keyset: this member has the wrong form. A second line says which file\n"
    ++ codes "     it is.\n\n"
    ++ codes "3  bad JSON member {member} of key {key}\n"
    ++ codes "     The same, for a key. Keys count from 0.\n\n"
    ++ codes "3  bad JSON member encryptedKeyset\n"
    ++ codes "     The JSON isn't an encrypted keyset, as wrap-keyset writes one.\n\n"
    ++ codes "3  keyset has no key\n"
    ++ codes "     An empty input in the binary form is such a keyset: check that the file isn't empty. A\n"
    ++ codes "     second line says which file it is, as for each fault of a keyset below. An encrypted\n"
    ++ codes "     keyset in JSON also gives this line, and a second one that says so: give --master.\n\n"
    ++ codes "3  keyset has too many keys\n"
    ++ codes "     A keyset has at most 1,000 keys. Delete some with the tool that made it.\n\n"
    ++ codes "3  key {key} has an unknown status\n"
    ++ codes "     The key's status isn't one of Tink's: the file is damaged, or of a later Tink.\n\n"
    ++ codes "3  key {key} has an unknown output prefix type\n"
    ++ codes "     The same, for its output prefix type.\n\n"
    ++ codes "3  key {key} has an unknown key material type\n"
    ++ codes "     The same, for its key material type.\n\n"
    ++ codes "3  key {key} has no key data\n"
    ++ codes "     Only a DESTROYED key may have none.\n\n"
    ++ codes "3  no key has the primary id\n"
    ++ codes "     The keyset is incomplete. Another copy of it may have the key.\n\n"
    ++ codes "3  the primary key is not enabled\n"
    ++ codes "     No key with the primary id is ENABLED. Enable it, or make another one the primary, with\n"
    ++ codes "     the tool that made the keyset.\n\n"
    ++ codes "3  keys {first} and {second} are both the primary\n"
    ++ codes "     Two ENABLED keys have the primary id, and nothing says which one seals. Disable one of\n"
    ++ codes "     them with the tool that made the keyset.\n\n"
    ++ codes "3  key {key} has no manager for this command\n"
    ++ codes "     The key is of a kind that this command doesn't use; a second line has its id, and what\n"
    ++ codes "     it is for: keys for AEAD are for seal, open, reseal, eseal, eopen and ereseal, AES-SIV\n"
    ++ codes "     for dseal, dopen and dreseal, HMAC and CMAC for tag and verify, PRFs for derive,\n"
    ++ codes "     streaming keys for sseal, sopen, sreseal and srange. The keys of a master are for AEAD.\n"
    ++ codes "     One ENABLED key of another kind is enough for this: disable it (if it is the primary,\n"
    ++ codes "     make another key the primary first), or keep it in a keyset of its own.\n\n"
    ++ codes "3  key {key} is not valid: {rule}\n"
    ++ codes "     The key breaks this rule, for example with a size that its kind doesn't have. Another\n"
    ++ codes "     tool made it: disable it (if it is the primary, make another key the primary first).\n\n"
    ++ codes "3  key {key} is not RAW\n"
    ++ codes "     A key that derives has to be RAW, because there is no place for a prefix.\n\n"
    ++ codes "3  no manager for the data key\n"
    ++ codes "     Another program's managers lack this kind of key. tinkey itself has one for each AEAD.\n\n"
    ++ codes "3  data key refused: {rule}\n"
    ++ codes "     Another program's manager refuses the keys of this template. Those of tinkey accept\n"
    ++ codes "     each.\n\n"
    ++ codes "4  input file missing\n"
    ++ codes "     There is no file with the name given by --in, --keyset, --master, --new-master or\n"
    ++ codes "     --file; a second line says by which of them.\n\n"
    ++ codes "4  key not found\n"
    ++ codes "     No key of the keyset has this id: list-keyset shows the ids.\n\n"
    ++ codes "4  key is primary\n"
    ++ codes "     Make another key the primary first: promote-key, or rotate-keyset.\n\n"
    ++ codes "4  key is not enabled\n"
    ++ codes "     Only an ENABLED key can be the primary: enable-key first.\n\n"
    ++ codes "4  key is destroyed\n"
    ++ codes "     Its material is gone, and no command brings it back.\n\n"
    ++ codes "4  key refused: {rule}\n"
    ++ codes "     The key's message breaks this rule, so it isn't enabled.\n\n"
    ++ codes "4  key of another primitive\n"
    ++ codes "     All keys of a keyset do one kind of work. Make a separate keyset for this template or\n"
    ++ codes "     key.\n\n"
    ++ codes "4  no free key id\n"
    ++ codes "     64 random ids in a row were 0 or in use: check the random device.\n\n"
    ++ codes "4  too many keys\n"
    ++ codes "     The keyset has 1,000 keys. Delete those that nothing is sealed under any more.\n\n"
    ++ codes "4  primary would be ambiguous\n"
    ++ codes "     Another key has this id, and both would be ENABLED under the primary id. To enable a\n"
    ++ codes "     key, first make a key with another id the primary. Otherwise use rotate-keyset, which\n"
    ++ codes "     makes a primary with an id of its own.\n\n"
    ++ codes "4  output file exists\n"
    ++ codes "     No file is ever replaced: give a new name. A session checks this before its first line.\n\n"
    ++ codes "5  read fault\n"
    ++ codes "     Standard input couldn't be read.\n\n"
    ++ codes "5  write fault\n"
    ++ codes "     Standard output accepted no more bytes, for example because a pipe was closed or a disk\n"
    ++ codes "     is full. What it accepted is the first part of the output.\n\n"
    ++ codes "5  entropy fault\n"
    ++ codes "     The system's random device couldn't be read, or isn't the system's.\n\n"
    ++ codes "5  store fault\n"
    ++ codes "     A file couldn't be read or made: it is a folder, or for --file a pipe; the folder of\n"
    ++ codes "     the new file isn't there; permission is missing; the disk is full. The new file isn't\n"
    ++ codes "     there, or is there whole; on a file system without hard links it may have only its\n"
    ++ codes "     first bytes. Remove it before the next try.\n\n"
    ++ codes "6  keyset too long\n"
    ++ codes "     A keyset has at most 1,048,576 bytes when it is read and when it is written; JSON is\n"
    ++ codes "     longer than the binary form. An encrypted keyset has at most 4,194,304.\n\n"
    ++ codes "6  input too long\n"
    ++ codes "     The command takes 16,777,216 bytes, and a command that opens or reseals takes\n"
    ++ codes "     everything that was sealed from that many. Seal longer inputs with sseal, under a\n"
    ++ codes "     streaming key.\n\n"
    ++ codes "6  too many segments\n"
    ++ codes "     The input of a stream is too long for its segments: use a template with larger ones.\n\n"
    ++ codes "6  line too long\n"
    ++ codes "     A line of a session has at most 65,536 bytes. The replies before it are valid, but\n"
    ++ codes "     --out makes no file: edits that no line save kept are lost, and what was sealed under a\n"
    ++ codes "     key that they made never opens again.\n\n"
    ++ codes "6  too many lines\n"
    ++ codes "     A session has at most 100,000 lines. Its replies are valid, but --out makes no file:\n"
    ++ codes "     edits that no line save kept are lost, and what was sealed under a key that they made\n"
    ++ codes "     never opens again. Count the lines first, and split them over several sessions.\n\n"
    ++ codes "7  out of memory\n"
    ++ codes "     Memory was refused. No new file was made; what a stream or a session had written before\n"
    ++ codes "     is valid.\n\n"
    ++ codes "8  a word of the command isn't text (UTF-8)\n\n"
    ++ codes "127  the processor lacks what the program was built for, as x86-64-v3: make run\n"
    ++ codes "     CPU=x86-64-v2 makes one for nearly every processor. The line is the toolchain's; the\n"
    ++ codes "     build for plain x86-64 that it may advise is refused here.\n"

-- Parts that commands share: an option's lines, named after it and the column at which they tell what
-- it is; a command's options, what it reads, what it gives and its note, named after the first one; and
-- exit codes, by their numbers.

abbrev pub key_template_31 : List ℕ
key_template_31 =
    codes "  --key-template NAME          the template of the new key: a name that list-key-templates\n"
    ++ codes "                               prints; any text is taken as a word, and then looked up\n"

abbrev pub out_31 : List ℕ
out_31 =
    codes "  --out FILE                   the file to make: the name of a file that isn't there yet, of\n"
    ++ codes "                               one byte or more; its last part doesn't begin with\n"
    ++ codes "                               .tinkey-new-; or, but for session, - for standard output\n"

abbrev pub out_format_31 : List ℕ
out_format_31 =
    codes "  --out-format json|binary     the form of the keyset to write: json or binary, in upper or\n"
    ++ codes "                               lower case; json if it isn't given\n"

abbrev pub master_31 : List ℕ
master_31 =
    codes "  --master FILE                the file of the master, the keyset under which this one is\n"
    ++ codes "                               encrypted: a file's name, of one byte or more, and not -\n"

abbrev pub master_format_31 : List ℕ
master_format_31 =
    codes "  --master-format json|binary  the form of the master: json or binary, in upper or lower\n"
    ++ codes "                               case; json if it isn't given\n"

abbrev pub read_by_create_keyset : List ℕ
read_by_create_keyset =
    codes "\nReads  nothing\n"

abbrev pub code_0 : List ℕ
code_0 =
    codes "  0  done\n"

abbrev pub code_2 : List ℕ
code_2 =
    codes "  2  the words aren't a command, or ask for something that can't be had\n"

abbrev pub code_3 : List ℕ
code_3 =
    codes "  3  the keyset isn't one, or its keys can't serve for the command\n"

abbrev pub code_4 : List ℕ
code_4 =
    codes "  4  a file is missing or already there, or an edit is refused\n"

abbrev pub code_5 : List ℕ
code_5 =
    codes "  5  reading, writing, a file or the random device failed\n"

abbrev pub code_6 : List ℕ
code_6 =
    codes "  6  a limit was passed\n"

abbrev pub code_7 : List ℕ
code_7 =
    codes "  7  out of memory\n"

abbrev pub code_8 : List ℕ
code_8 =
    codes "  8  a word of the command isn't text (UTF-8)\n"

abbrev pub codes_02345678 : List ℕ
codes_02345678 =
    codes "\nExit codes:\n"
    ++ code_0 ++ code_2 ++ code_3 ++ code_4 ++ code_5 ++ code_6 ++ code_7 ++ code_8
    ++ codes "\nExample:\n"

abbrev pub in_31 : List ℕ
in_31 =
    codes "  --in FILE                    the file of the keyset to read: a file's name, of one byte or\n"
    ++ codes "                               more, or - for standard input\n"

abbrev pub in_format_31 : List ℕ
in_format_31 =
    codes "  --in-format json|binary      the form of that keyset: json or binary, in upper or lower\n"
    ++ codes "                               case; json if it isn't given\n"

abbrev pub options_of_add_key : List ℕ
options_of_add_key =
    codes "\nRequired:\n"
    ++ key_template_31
    ++ codes "\nOptional:\n"
    ++ in_31 ++ in_format_31 ++ out_31 ++ out_format_31 ++ master_31 ++ master_format_31

abbrev pub read_by_add_key : List ℕ
read_by_add_key =
    codes "\nReads  a keyset, from the file of --in, or from standard input if there is no --in\n"

abbrev pub given_by_add_key : List ℕ
given_by_add_key =
    codes "Gives  the keyset after that edit, in a new file of --out, or on standard output if there is\n"
    ++ codes "       no --out\n"

abbrev pub note_of_add_key : List ℕ
note_of_add_key =
    codes "Note   no file is replaced; to change k in place: --in k --out k.new && mv k.new k\n"

abbrev pub codes_012345678 : List ℕ
codes_012345678 =
    codes "\nExit codes:\n"
    ++ code_0
    ++ codes "  1  what was given doesn't open or verify, isn't a whole stream, or no key made it\n"
    ++ code_2 ++ code_3 ++ code_4 ++ code_5 ++ code_6 ++ code_7 ++ code_8
    ++ codes "\nExample:\n"

abbrev pub options_of_promote_key : List ℕ
options_of_promote_key =
    codes "\nRequired:\n"
    ++ codes "  --key-id N                   the id of the key to change: 1 to 10 decimal digits, of a\n"
    ++ codes "                               number up to 4,294,967,295\n\n"
    ++ codes "Optional:\n"
    ++ in_31 ++ in_format_31 ++ out_31 ++ out_format_31 ++ master_31 ++ master_format_31

abbrev pub keyset_31 : List ℕ
keyset_31 =
    codes "  --keyset FILE                the file of the keyset to use: a file's name, of one byte or\n"
    ++ codes "                               more, and not -\n"

abbrev pub keyset_format_31 : List ℕ
keyset_format_31 =
    codes "  --keyset-format json|binary  the form of that keyset: json or binary, in upper or lower\n"
    ++ codes "                               case; json if it isn't given\n"

abbrev pub codes_02578 : List ℕ
codes_02578 =
    codes "\nExit codes:\n"
    ++ code_0 ++ code_2 ++ code_5 ++ code_7 ++ code_8
    ++ codes "\nExample:\n"

abbrev pub options_of_wrap_keyset : List ℕ
options_of_wrap_keyset =
    codes "\nRequired:\n"
    ++ master_31
    ++ codes "\nOptional:\n"
    ++ master_format_31 ++ in_31 ++ in_format_31 ++ out_31 ++ out_format_31

abbrev pub ad_31 : List ℕ
ad_31 =
    codes "  --ad TEXT                    the associated data: a text of at most 1,048,576 bytes, taken\n"
    ++ codes "                               as they stand; not beside --ad-hex\n"

abbrev pub ad_hex_31 : List ℕ
ad_hex_31 =
    codes "  --ad-hex HEX                 the associated data in hexadecimal: an even number of\n"
    ++ codes "                               hexadecimal digits of either case, at most 2,097,152, or\n"
    ++ codes "                               none; not beside --ad\n"

abbrev pub options_of_seal : List ℕ
options_of_seal =
    codes "\nRequired:\n"
    ++ keyset_31
    ++ codes "\nOptional:\n"
    ++ keyset_format_31 ++ ad_31 ++ ad_hex_31 ++ out_31 ++ master_31 ++ master_format_31

abbrev pub read_by_seal : List ℕ
read_by_seal =
    codes "\nReads  the keyset in the file of --keyset, and all of standard input\n"

abbrev pub given_by_open : List ℕ
given_by_open =
    codes "Gives  what the input opens to, in a new file of --out, or on standard output if there is no\n"
    ++ codes "       --out\n"

abbrev pub dek_template_31 : List ℕ
dek_template_31 =
    codes "  --dek-template NAME          the template of the data key: a name that list-key-templates\n"
    ++ codes "                               prints; any text is taken as a word, and then looked up\n"

abbrev pub options_of_eseal : List ℕ
options_of_eseal =
    codes "\nRequired:\n"
    ++ keyset_31 ++ dek_template_31
    ++ codes "\nOptional:\n"
    ++ keyset_format_31 ++ ad_31 ++ ad_hex_31 ++ out_31 ++ master_31 ++ master_format_31

abbrev pub read_by_sseal : List ℕ
read_by_sseal =
    codes "\nReads  the keyset, and standard input as a stream\n"

abbrev pub length_31 : List ℕ
length_31 =
    codes "  --length N                   how many bytes to derive, or to open: 1 to 10 decimal digits,\n"
    ++ codes "                               of a number up to 4,294,967,295; for srange, up to 16,777,216\n"

abbrev pub hex_31 : List ℕ
hex_31 =
    codes "  --hex                        writes the output in hexadecimal\n"

-- each command
unfoldable pub command_text : CommandName → List ℕ
command_text commands.CreateKeyset =
    codes "tinkey create-keyset: makes a keyset of one new key, the primary\n\n"
    ++ codes "  tinkey create-keyset --key-template NAME [--out FILE] [--out-format json|binary]\n"
    ++ codes "      [--master FILE] [--master-format json|binary]\n\n"
    ++ codes "Required:\n"
    ++ key_template_31
    ++ codes "\nOptional:\n"
    ++ out_31 ++ out_format_31 ++ master_31 ++ master_format_31 ++ read_by_create_keyset
    ++ codes "Gives  a keyset of one new key, in a new file of --out, or on standard output if there is no\n"
    ++ codes "       --out\n"
    ++ codes_02345678
    ++ codes "  tinkey create-keyset --key-template AES256_GCM --out first.json\n"
command_text commands.AddKey =
    codes "tinkey add-key: adds a new key\n\n"
    ++ codes "  tinkey add-key --key-template NAME [--in FILE] [--in-format json|binary] [--out FILE]\n"
    ++ codes "      [--out-format json|binary] [--master FILE] [--master-format json|binary]\n"
    ++ options_of_add_key ++ read_by_add_key ++ given_by_add_key ++ note_of_add_key
    ++ codes_012345678
    ++ codes "  tinkey create-keyset --key-template AES256_GCM --out one.json\n"
    ++ codes "  tinkey add-key --key-template AES256_GCM --in one.json --out two.json\n"
command_text commands.RotateKeyset =
    codes "tinkey rotate-keyset: adds a new key, and makes it the primary\n\n"
    ++ codes "  tinkey rotate-keyset --key-template NAME [--in FILE] [--in-format json|binary]\n"
    ++ codes "      [--out FILE] [--out-format json|binary] [--master FILE] [--master-format json|binary]\n"
    ++ options_of_add_key ++ read_by_add_key ++ given_by_add_key ++ note_of_add_key
    ++ codes_012345678
    ++ codes "  tinkey create-keyset --key-template AES256_GCM --out old.json\n"
    ++ codes "  tinkey rotate-keyset --key-template AES256_GCM --in old.json --out rotated.json\n"
command_text commands.PromoteKey =
    codes "tinkey promote-key: makes an enabled key the primary\n\n"
    ++ codes "  tinkey promote-key --key-id N [--in FILE] [--in-format json|binary] [--out FILE]\n"
    ++ codes "      [--out-format json|binary] [--master FILE] [--master-format json|binary]\n"
    ++ options_of_promote_key ++ read_by_add_key ++ given_by_add_key ++ note_of_add_key
    ++ codes_012345678
    ++ codes "  tinkey create-keyset --key-template AES256_GCM |\n"
    ++ codes "      tinkey rotate-keyset --key-template AES256_GCM --out both.json\n"
    ++ codes "  id=$(tinkey list-keyset --in both.json | sed -n 's/^  key_id: //p' | head -n 1)\n"
    ++ codes "  tinkey promote-key --key-id $id --in both.json --out promoted.json\n"
command_text commands.EnableKey =
    codes "tinkey enable-key: makes a key ENABLED\n\n"
    ++ codes "  tinkey enable-key --key-id N [--in FILE] [--in-format json|binary] [--out FILE]\n"
    ++ codes "      [--out-format json|binary] [--master FILE] [--master-format json|binary]\n"
    ++ options_of_promote_key ++ read_by_add_key ++ given_by_add_key ++ note_of_add_key
    ++ codes_012345678
    ++ codes "  tinkey create-keyset --key-template AES256_GCM |\n"
    ++ codes "      tinkey rotate-keyset --key-template AES256_GCM --out ready.json\n"
    ++ codes "  id=$(tinkey list-keyset --in ready.json | sed -n 's/^  key_id: //p' | head -n 1)\n"
    ++ codes "  tinkey disable-key --key-id $id --in ready.json --out off.json\n"
    ++ codes "  tinkey enable-key --key-id $id --in off.json --out on.json\n"
command_text commands.DisableKey =
    codes "tinkey disable-key: makes a key DISABLED: it isn't used, and can be enabled again\n\n"
    ++ codes "  tinkey disable-key --key-id N [--in FILE] [--in-format json|binary] [--out FILE]\n"
    ++ codes "      [--out-format json|binary] [--master FILE] [--master-format json|binary]\n"
    ++ options_of_promote_key ++ read_by_add_key ++ given_by_add_key ++ note_of_add_key
    ++ codes_012345678
    ++ codes "  tinkey create-keyset --key-template AES256_GCM |\n"
    ++ codes "      tinkey rotate-keyset --key-template AES256_GCM --out busy.json\n"
    ++ codes "  id=$(tinkey list-keyset --in busy.json | sed -n 's/^  key_id: //p' | head -n 1)\n"
    ++ codes "  tinkey disable-key --key-id $id --in busy.json --out disabled.json\n"
command_text commands.DestroyKey =
    codes "tinkey destroy-key: destroys a key's material for good: what it sealed never opens again\n\n"
    ++ codes "  tinkey destroy-key --key-id N [--in FILE] [--in-format json|binary] [--out FILE]\n"
    ++ codes "      [--out-format json|binary] [--master FILE] [--master-format json|binary]\n"
    ++ options_of_promote_key ++ read_by_add_key ++ given_by_add_key ++ note_of_add_key
    ++ codes_012345678
    ++ codes "  tinkey create-keyset --key-template AES256_GCM |\n"
    ++ codes "      tinkey rotate-keyset --key-template AES256_GCM --out full.json\n"
    ++ codes "  id=$(tinkey list-keyset --in full.json | sed -n 's/^  key_id: //p' | head -n 1)\n"
    ++ codes "  tinkey destroy-key --key-id $id --in full.json --out destroyed.json\n"
command_text commands.DeleteKey =
    codes "tinkey delete-key: removes a key for good: what it sealed never opens again\n\n"
    ++ codes "  tinkey delete-key --key-id N [--in FILE] [--in-format json|binary] [--out FILE]\n"
    ++ codes "      [--out-format json|binary] [--master FILE] [--master-format json|binary]\n"
    ++ options_of_promote_key ++ read_by_add_key ++ given_by_add_key ++ note_of_add_key
    ++ codes_012345678
    ++ codes "  tinkey create-keyset --key-template AES256_GCM |\n"
    ++ codes "      tinkey rotate-keyset --key-template AES256_GCM --out many.json\n"
    ++ codes "  id=$(tinkey list-keyset --in many.json | sed -n 's/^  key_id: //p' | head -n 1)\n"
    ++ codes "  tinkey delete-key --key-id $id --in many.json --out fewer.json\n"
command_text commands.ListKeyset =
    codes "tinkey list-keyset: lists a keyset without key material\n\n"
    ++ codes "  tinkey list-keyset [--in FILE] [--in-format json|binary] [--master FILE]\n"
    ++ codes "      [--master-format json|binary]\n\n"
    ++ codes "Optional:\n"
    ++ in_31 ++ in_format_31 ++ master_31 ++ master_format_31 ++ read_by_add_key
    ++ codes "Gives  its listing, on standard output\n"
    ++ codes_012345678
    ++ codes "  tinkey create-keyset --key-template AES256_GCM --out listed.json\n"
    ++ codes "  tinkey list-keyset --in listed.json\n"
command_text commands.KeyOf =
    codes "tinkey key-of: shows which keys may have made a sealed text, tag, envelope or stream\n\n"
    ++ codes "  tinkey key-of --keyset FILE [--keyset-format json|binary] [--ad TEXT] [--ad-hex HEX]\n"
    ++ codes "      [--master FILE] [--master-format json|binary] [--as text|envelope|stream]\n\n"
    ++ codes "Required:\n"
    ++ keyset_31
    ++ codes "\nOptional:\n"
    ++ keyset_format_31
    ++ codes "  --ad TEXT                    the associated data, only with --as stream: a text of at most\n"
    ++ codes "                               1,048,576 bytes, taken as they stand; not beside --ad-hex\n"
    ++ codes "  --ad-hex HEX                 the associated data in hexadecimal, only with --as stream: an\n"
    ++ codes "                               even number of hexadecimal digits of either case, at most\n"
    ++ codes "                               2,097,152, or none; not beside --ad\n"
    ++ master_31 ++ master_format_31
    ++ codes "  --as text|envelope|stream    what the input is: a sealed text or a tag, an envelope, or a\n"
    ++ codes "                               stream: text, envelope or stream, in upper or lower case;\n"
    ++ codes "                               text if it isn't given\n\n"
    ++ codes "Reads  the keyset, and the first 5 bytes of standard input, the first 9 with --as envelope,\n"
    ++ codes "       or with --as stream one byte more than the largest segment under the keyset's keys\n"
    ++ codes "Gives  a line for each key, of any status, whose output prefix the input begins with, and\n"
    ++ codes "       one that counts the keys without a prefix; with --as stream the line of the key under\n"
    ++ codes "       which sopen opens the stream; on standard output\n"
    ++ codes_012345678
    ++ codes "  tinkey create-keyset --key-template AES256_GCM --out sealer.json\n"
    ++ codes "  echo 'Dear Ada' | tinkey seal --keyset sealer.json --out sealed.text\n"
    ++ codes "  tinkey key-of --keyset sealer.json < sealed.text\n"
command_text commands.ListKeyTemplates =
    codes "tinkey list-key-templates: lists the names of the templates for new keys\n\n"
    ++ codes "  tinkey list-key-templates [--for COMMAND]\n\n"
    ++ codes "Optional:\n"
    ++ codes "  --for COMMAND  the command that the templates' keys are to serve: the word of a command\n"
    ++ codes "                 that seals, opens, reseals, tags, verifies, derives, wraps or unwraps\n"
    ++ read_by_create_keyset
    ++ codes "Gives  the names of the templates, or with --for of those whose keys serve that command, one\n"
    ++ codes "       a line, on standard output\n"
    ++ codes_02578
    ++ codes "  tinkey list-key-templates --for dseal\n"
command_text commands.ConvertKeyset =
    codes "tinkey convert-keyset: writes a keyset in another form, or under another master\n\n"
    ++ codes "  tinkey convert-keyset [--in FILE] [--in-format json|binary] [--out FILE]\n"
    ++ codes "      [--out-format json|binary] [--master FILE] [--master-format json|binary]\n"
    ++ codes "      [--new-master FILE] [--new-master-format json|binary]\n\n"
    ++ codes "Optional:\n"
    ++ codes "  --in FILE                        the file of the keyset to read: a file's name, of one\n"
    ++ codes "                                   byte or more, or - for standard input\n"
    ++ codes "  --in-format json|binary          the form of that keyset: json or binary, in upper or\n"
    ++ codes "                                   lower case; json if it isn't given\n"
    ++ codes "  --out FILE                       the file to make: the name of a file that isn't there\n"
    ++ codes "                                   yet, of one byte or more; its last part doesn't begin\n"
    ++ codes "                                   with .tinkey-new-; or, but for session, - for standard\n"
    ++ codes "                                   output\n"
    ++ codes "  --out-format json|binary         the form of the keyset to write: json or binary, in upper\n"
    ++ codes "                                   or lower case; json if it isn't given\n"
    ++ codes "  --master FILE                    the file of the master, the keyset under which this one\n"
    ++ codes "                                   is encrypted: a file's name, of one byte or more, and not\n"
    ++ codes "                                   -\n"
    ++ codes "  --master-format json|binary      the form of the master: json or binary, in upper or lower\n"
    ++ codes "                                   case; json if it isn't given\n"
    ++ codes "  --new-master FILE                the file of the master that the keyset is put under: a\n"
    ++ codes "                                   file's name, of one byte or more, and not -\n"
    ++ codes "  --new-master-format json|binary  the form of that master: json or binary, in upper or\n"
    ++ codes "                                   lower case; json if it isn't given\n"
    ++ read_by_add_key
    ++ codes "Gives  the same keyset, in a new file of --out, or on standard output if there is no --out\n"
    ++ note_of_add_key
    ++ codes_012345678
    ++ codes "  tinkey create-keyset --key-template AES256_GCM --out text.json\n"
    ++ codes "  tinkey convert-keyset --in text.json --out keyset.bin --out-format binary\n"
    ++ codes "  tinkey create-keyset --key-template AES256_GCM --out other.json\n"
    ++ codes "  tinkey convert-keyset --in text.json --new-master other.json --out hidden.json\n"
command_text commands.WrapKeyset =
    codes "tinkey wrap-keyset: seals a keyset under another one, the master\n\n"
    ++ codes "  tinkey wrap-keyset --master FILE [--master-format json|binary] [--in FILE]\n"
    ++ codes "      [--in-format json|binary] [--out FILE] [--out-format json|binary]\n"
    ++ options_of_wrap_keyset
    ++ codes "\nReads  the master in the file of --master, and a keyset, from the file of --in, or from\n"
    ++ codes "       standard input if there is no --in\n"
    ++ codes "Gives  the keyset as an encrypted keyset, sealed under the master's primary key, in the form\n"
    ++ codes "       of --out-format, in a new file of --out, or on standard output if there is no --out\n"
    ++ codes "Keys   of the master, of templates that tinkey list-key-templates --for wrap-keyset lists\n"
    ++ codes_02345678
    ++ codes "  tinkey create-keyset --key-template AES256_GCM --out master.json\n"
    ++ codes "  tinkey create-keyset --key-template AES256_GCM |\n"
    ++ codes "      tinkey wrap-keyset --master master.json --out wrapped.json\n"
command_text commands.UnwrapKeyset =
    codes "tinkey unwrap-keyset: opens a keyset that was wrapped\n\n"
    ++ codes "  tinkey unwrap-keyset --master FILE [--master-format json|binary] [--in FILE]\n"
    ++ codes "      [--in-format json|binary] [--out FILE] [--out-format json|binary]\n"
    ++ options_of_wrap_keyset
    ++ codes "\nReads  the master, and an encrypted keyset in the form of --in-format, from the file of\n"
    ++ codes "       --in, or from standard input if there is no --in\n"
    ++ codes "Gives  the keyset inside, in a new file of --out, or on standard output if there is no --out\n"
    ++ codes "Keys   of the master, of templates that tinkey list-key-templates --for unwrap-keyset lists\n"
    ++ codes_012345678
    ++ codes "  tinkey create-keyset --key-template AES256_GCM --out lock.json\n"
    ++ codes "  tinkey create-keyset --key-template AES256_GCM |\n"
    ++ codes "      tinkey wrap-keyset --master lock.json --out locked.json\n"
    ++ codes "  tinkey unwrap-keyset --master lock.json --in locked.json --out unlocked.json\n"
command_text commands.Seal =
    codes "tinkey seal: seals standard input under the primary key\n\n"
    ++ codes "  tinkey seal --keyset FILE [--keyset-format json|binary] [--ad TEXT] [--ad-hex HEX]\n"
    ++ codes "      [--out FILE] [--master FILE] [--master-format json|binary]\n"
    ++ options_of_seal ++ read_by_seal
    ++ codes "Gives  the input sealed under the primary key, in a new file of --out, or on standard output\n"
    ++ codes "       if there is no --out\n"
    ++ codes "Keys   of templates that tinkey list-key-templates --for seal lists\n"
    ++ codes_012345678
    ++ codes "  tinkey create-keyset --key-template AES256_GCM --out seal.json\n"
    ++ codes "  echo 'Dear Ada' | tinkey seal --keyset seal.json --ad 'to Ada' --out letter.sealed\n"
command_text commands.Open =
    codes "tinkey open: opens what any enabled key sealed\n\n"
    ++ codes "  tinkey open --keyset FILE [--keyset-format json|binary] [--ad TEXT] [--ad-hex HEX]\n"
    ++ codes "      [--out FILE] [--master FILE] [--master-format json|binary]\n"
    ++ options_of_seal ++ read_by_seal ++ given_by_open
    ++ codes "Keys   of templates that tinkey list-key-templates --for open lists\n"
    ++ codes_012345678
    ++ codes "  tinkey create-keyset --key-template AES256_GCM --out open.json\n"
    ++ codes "  echo 'Dear Ada' | tinkey seal --keyset open.json --ad 'to Ada' --out open.sealed\n"
    ++ codes "  tinkey open --keyset open.json --ad 'to Ada' < open.sealed\n"
command_text commands.Eseal =
    codes "tinkey eseal: seals under a fresh data key, and that key under the keyset: an envelope\n\n"
    ++ codes "  tinkey eseal --keyset FILE --dek-template NAME [--keyset-format json|binary] [--ad TEXT]\n"
    ++ codes "      [--ad-hex HEX] [--out FILE] [--master FILE] [--master-format json|binary]\n"
    ++ options_of_eseal ++ read_by_seal
    ++ codes "Gives  an envelope of the input, under a fresh data key of the template of --dek-template,\n"
    ++ codes "       in a new file of --out, or on standard output if there is no --out\n"
    ++ codes "Keys   of templates that tinkey list-key-templates --for eseal lists\n"
    ++ codes_012345678
    ++ codes "  tinkey create-keyset --key-template AES256_GCM --out eseal.json\n"
    ++ codes "  echo 'Dear Ada' | tinkey eseal --keyset eseal.json --dek-template AES128_GCM --out envelope\n"
command_text commands.Eopen =
    codes "tinkey eopen: opens an envelope\n\n"
    ++ codes "  tinkey eopen --keyset FILE --dek-template NAME [--keyset-format json|binary] [--ad TEXT]\n"
    ++ codes "      [--ad-hex HEX] [--out FILE] [--master FILE] [--master-format json|binary]\n"
    ++ options_of_eseal ++ read_by_seal
    ++ codes "Gives  what the envelope opens to, in a new file of --out, or on standard output if there is\n"
    ++ codes "       no --out\n"
    ++ codes "Keys   of templates that tinkey list-key-templates --for eopen lists\n"
    ++ codes_012345678
    ++ codes "  tinkey create-keyset --key-template AES256_GCM --out eopen.json\n"
    ++ codes "  echo 'Dear Ada' | tinkey eseal --keyset eopen.json --dek-template AES128_GCM --out eopen.sealed\n"
    ++ codes "  tinkey eopen --keyset eopen.json --dek-template AES128_GCM < eopen.sealed\n"
command_text commands.Ereseal =
    codes "tinkey ereseal: opens an envelope's data key, and seals that again under the primary key\n\n"
    ++ codes "  tinkey ereseal --keyset FILE --dek-template NAME [--keyset-format json|binary]\n"
    ++ codes "      [--out FILE] [--master FILE] [--master-format json|binary]\n\n"
    ++ codes "Required:\n"
    ++ keyset_31 ++ dek_template_31
    ++ codes "\nOptional:\n"
    ++ keyset_format_31 ++ out_31 ++ master_31 ++ master_format_31 ++ read_by_seal
    ++ codes "Gives  the envelope with its data key sealed again under the primary key; its payload stays\n"
    ++ codes "       as it is, and isn't opened, in a new file of --out, or on standard output if there is\n"
    ++ codes "       no --out\n"
    ++ codes "Keys   of templates that tinkey list-key-templates --for ereseal lists\n"
    ++ codes_012345678
    ++ codes "  tinkey create-keyset --key-template AES256_GCM --out outer.json\n"
    ++ codes "  echo 'Dear Ada' | tinkey eseal --keyset outer.json --dek-template AES128_GCM --out outer.sealed\n"
    ++ codes "  tinkey rotate-keyset --key-template AES256_GCM --in outer.json --out ereseal.json\n"
    ++ codes "  tinkey ereseal --keyset ereseal.json --dek-template AES128_GCM < outer.sealed > eresealed\n"
command_text commands.Dseal =
    codes "tinkey dseal: seals deterministically: equal texts give equal bytes\n\n"
    ++ codes "  tinkey dseal --keyset FILE [--keyset-format json|binary] [--ad TEXT] [--ad-hex HEX]\n"
    ++ codes "      [--out FILE] [--master FILE] [--master-format json|binary]\n"
    ++ options_of_seal ++ read_by_seal
    ++ codes "Gives  the input sealed under the primary key, without an IV, in a new file of --out, or on\n"
    ++ codes "       standard output if there is no --out\n"
    ++ codes "Keys   of templates that tinkey list-key-templates --for dseal lists\n"
    ++ codes_012345678
    ++ codes "  tinkey create-keyset --key-template AES256_SIV --out dseal.json\n"
    ++ codes "  echo 'Dear Ada' | tinkey dseal --keyset dseal.json --out same.sealed\n"
command_text commands.Dopen =
    codes "tinkey dopen: opens what dseal sealed\n\n"
    ++ codes "  tinkey dopen --keyset FILE [--keyset-format json|binary] [--ad TEXT] [--ad-hex HEX]\n"
    ++ codes "      [--out FILE] [--master FILE] [--master-format json|binary]\n"
    ++ options_of_seal ++ read_by_seal ++ given_by_open
    ++ codes "Keys   of templates that tinkey list-key-templates --for dopen lists\n"
    ++ codes_012345678
    ++ codes "  tinkey create-keyset --key-template AES256_SIV --out dopen.json\n"
    ++ codes "  echo 'Dear Ada' | tinkey dseal --keyset dopen.json --out dopen.sealed\n"
    ++ codes "  tinkey dopen --keyset dopen.json < dopen.sealed\n"
command_text commands.Reseal =
    codes "tinkey reseal: opens, and seals again under the primary key\n\n"
    ++ codes "  tinkey reseal --keyset FILE [--keyset-format json|binary] [--ad TEXT] [--ad-hex HEX]\n"
    ++ codes "      [--out FILE] [--master FILE] [--master-format json|binary]\n"
    ++ options_of_seal ++ read_by_seal
    ++ codes "Gives  what the input opens to, sealed again under the primary key, in a new file of --out,\n"
    ++ codes "       or on standard output if there is no --out\n"
    ++ codes "Keys   of templates that tinkey list-key-templates --for reseal lists\n"
    ++ codes_012345678
    ++ codes "  tinkey create-keyset --key-template AES256_GCM --out before.json\n"
    ++ codes "  echo 'Dear Ada' | tinkey seal --keyset before.json --ad 'to Ada' --out reseal.sealed\n"
    ++ codes "  tinkey rotate-keyset --key-template AES256_GCM --in before.json --out reseal.json\n"
    ++ codes "  tinkey reseal --keyset reseal.json --ad 'to Ada' < reseal.sealed > resealed\n"
command_text commands.Dreseal =
    codes "tinkey dreseal: as reseal, of what dseal sealed\n\n"
    ++ codes "  tinkey dreseal --keyset FILE [--keyset-format json|binary] [--ad TEXT] [--ad-hex HEX]\n"
    ++ codes "      [--out FILE] [--master FILE] [--master-format json|binary]\n"
    ++ options_of_seal ++ read_by_seal
    ++ codes "Gives  as reseal, without an IV, in a new file of --out, or on standard output if there is\n"
    ++ codes "       no --out\n"
    ++ codes "Keys   of templates that tinkey list-key-templates --for dreseal lists\n"
    ++ codes_012345678
    ++ codes "  tinkey create-keyset --key-template AES256_SIV --out earlier.json\n"
    ++ codes "  echo 'Dear Ada' | tinkey dseal --keyset earlier.json --out dreseal.sealed\n"
    ++ codes "  tinkey rotate-keyset --key-template AES256_SIV --in earlier.json --out dreseal.json\n"
    ++ codes "  tinkey dreseal --keyset dreseal.json < dreseal.sealed > dresealed\n"
command_text commands.Sseal =
    codes "tinkey sseal: seals a stream of any length, in one pass\n\n"
    ++ codes "  tinkey sseal --keyset FILE [--keyset-format json|binary] [--ad TEXT] [--ad-hex HEX]\n"
    ++ codes "      [--out FILE] [--master FILE] [--master-format json|binary]\n"
    ++ options_of_seal ++ read_by_sseal
    ++ codes "Gives  the input sealed as a stream; in a new file of --out, which is there only once it is\n"
    ++ codes "       whole, or on standard output, written while it is read\n"
    ++ codes "Keys   of templates that tinkey list-key-templates --for sseal lists\n"
    ++ codes_012345678
    ++ codes "  tinkey create-keyset --key-template AES256_GCM_HKDF_1MB --out sseal.json\n"
    ++ codes "  echo 'Dear Ada' | tinkey sseal --keyset sseal.json > letter.stream\n"
command_text commands.Sopen =
    codes "tinkey sopen: opens a stream; it is complete only if the exit code is 0\n\n"
    ++ codes "  tinkey sopen --keyset FILE [--keyset-format json|binary] [--ad TEXT] [--ad-hex HEX]\n"
    ++ codes "      [--out FILE] [--master FILE] [--master-format json|binary]\n"
    ++ options_of_seal ++ read_by_sseal
    ++ codes "Gives  the plaintext of the stream; in a new file of --out, which is there only once all of\n"
    ++ codes "       it is verified, or on standard output, each segment once it is verified\n"
    ++ codes "Keys   of templates that tinkey list-key-templates --for sopen lists\n"
    ++ codes_012345678
    ++ codes "  tinkey create-keyset --key-template AES256_GCM_HKDF_1MB --out sopen.json\n"
    ++ codes "  echo 'Dear Ada' | tinkey sseal --keyset sopen.json > sopen.stream\n"
    ++ codes "  tinkey sopen --keyset sopen.json < sopen.stream > opened.txt && echo whole\n"
command_text commands.Sreseal =
    codes "tinkey sreseal: opens a stream, and seals it again under the primary key, in one pass\n\n"
    ++ codes "  tinkey sreseal --keyset FILE [--keyset-format json|binary] [--ad TEXT] [--ad-hex HEX]\n"
    ++ codes "      [--out FILE] [--master FILE] [--master-format json|binary]\n"
    ++ options_of_seal ++ read_by_sseal
    ++ codes "Gives  the plaintext of the stream, sealed again as a stream; in a new file of --out, which\n"
    ++ codes "       is there only once it is whole, or on standard output, written while it is read\n"
    ++ codes "Keys   of templates that tinkey list-key-templates --for sreseal lists\n"
    ++ codes_012345678
    ++ codes "  tinkey create-keyset --key-template AES256_GCM_HKDF_1MB --out former.json\n"
    ++ codes "  echo 'Dear Ada' | tinkey sseal --keyset former.json > former.stream\n"
    ++ codes "  tinkey rotate-keyset --key-template AES256_GCM_HKDF_1MB --in former.json --out sreseal.json\n"
    ++ codes "  tinkey sreseal --keyset sreseal.json < former.stream > sresealed && echo whole\n"
command_text commands.Srange =
    codes "tinkey srange: opens a range of a stream in a file\n\n"
    ++ codes "  tinkey srange --keyset FILE --file FILE --from N --length N [--keyset-format json|binary]\n"
    ++ codes "      [--ad TEXT] [--ad-hex HEX] [--out FILE] [--master FILE] [--master-format json|binary]\n\n"
    ++ codes "Required:\n"
    ++ keyset_31
    ++ codes "  --file FILE                  the file of the stream: a file's name, of one byte or more,\n"
    ++ codes "                               and not -; the file is no folder and no pipe\n"
    ++ codes "  --from N                     the offset of the first byte to open: 1 to 19 decimal digits,\n"
    ++ codes "                               of a number up to 9,223,372,036,854,775,807\n"
    ++ length_31
    ++ codes "\nOptional:\n"
    ++ keyset_format_31 ++ ad_31 ++ ad_hex_31 ++ out_31 ++ master_31 ++ master_format_31
    ++ codes "\nReads  the keyset, and the stream in the file of --file\n"
    ++ codes "Gives  as many bytes of the stream's plaintext as --length says, from the offset of --from\n"
    ++ codes "       on, counted from 0; in a new file of --out, or on standard output\n"
    ++ codes "Keys   of templates that tinkey list-key-templates --for srange lists\n"
    ++ codes_012345678
    ++ codes "  tinkey create-keyset --key-template AES256_GCM_HKDF_1MB --out srange.json\n"
    ++ codes "  echo 'Dear Ada' | tinkey sseal --keyset srange.json > srange.stream\n"
    ++ codes "  tinkey srange --keyset srange.json --file srange.stream --from 5 --length 3\n"
command_text commands.Tag =
    codes "tinkey tag: tags standard input under the primary key\n\n"
    ++ codes "  tinkey tag --keyset FILE [--keyset-format json|binary] [--out FILE] [--hex]\n"
    ++ codes "      [--master FILE] [--master-format json|binary]\n\n"
    ++ codes "Required:\n"
    ++ keyset_31
    ++ codes "\nOptional:\n"
    ++ keyset_format_31 ++ out_31 ++ hex_31 ++ master_31 ++ master_format_31 ++ read_by_seal
    ++ codes "Gives  the tag of the input under the primary key, in a new file of --out, or on standard\n"
    ++ codes "       output if there is no --out\n"
    ++ codes "Keys   of templates that tinkey list-key-templates --for tag lists\n"
    ++ codes_012345678
    ++ codes "  tinkey create-keyset --key-template HMAC_SHA256_128BITTAG --out tag.json\n"
    ++ codes "  echo 'Dear Ada' | tinkey tag --keyset tag.json --hex --out letter.tag\n"
command_text commands.Verify =
    codes "tinkey verify: says whether a tag is valid under any enabled key\n\n"
    ++ codes "  tinkey verify --keyset FILE --tag-hex HEX [--keyset-format json|binary] [--master FILE]\n"
    ++ codes "      [--master-format json|binary]\n\n"
    ++ codes "Required:\n"
    ++ keyset_31
    ++ codes "  --tag-hex HEX                the tag to verify, in hexadecimal: an even number of\n"
    ++ codes "                               hexadecimal digits of either case, at most 2,097,152, or none\n\n"
    ++ codes "Optional:\n"
    ++ keyset_format_31 ++ master_31 ++ master_format_31 ++ read_by_seal
    ++ codes "Gives  nothing; the status says whether the tag is one of the keyset's\n"
    ++ codes "Keys   of templates that tinkey list-key-templates --for verify lists\n"
    ++ codes_012345678
    ++ codes "  tinkey create-keyset --key-template HMAC_SHA256_128BITTAG --out verify.json\n"
    ++ codes "  tag=$(echo 'Dear Ada' | tinkey tag --keyset verify.json --hex)\n"
    ++ codes "  echo 'Dear Ada' | tinkey verify --keyset verify.json --tag-hex $tag && echo verified\n"
command_text commands.Derive =
    codes "tinkey derive: derives bytes from standard input\n\n"
    ++ codes "  tinkey derive --keyset FILE --length N [--keyset-format json|binary] [--out FILE] [--hex]\n"
    ++ codes "      [--master FILE] [--master-format json|binary]\n\n"
    ++ codes "Required:\n"
    ++ keyset_31 ++ length_31
    ++ codes "\nOptional:\n"
    ++ keyset_format_31 ++ out_31 ++ hex_31 ++ master_31 ++ master_format_31 ++ read_by_seal
    ++ codes "Gives  as many bytes as --length says, derived from the input by the primary key, in a new\n"
    ++ codes "       file of --out, or on standard output if there is no --out\n"
    ++ codes "Keys   of templates that tinkey list-key-templates --for derive lists\n"
    ++ codes_012345678
    ++ codes "  tinkey create-keyset --key-template HKDF_SHA256 --out derive.json\n"
    ++ codes "  echo 'Dear Ada' | tinkey derive --keyset derive.json --length 32 --hex\n"
command_text commands.Session =
    codes "tinkey session: answers lines that seal, open, tag, verify, derive, edit and save\n\n"
    ++ codes "Lost   every edit that no file has: a line save FILE that was answered ok keeps the edits\n"
    ++ codes "       before it, and --out those of a session that ended with exit code 0. What was sealed\n"
    ++ codes "       or tagged under a key that the session made, and that no file has, never opens or\n"
    ++ codes "       verifies again. So send save behind each add and rotate, and wait for its ok before\n"
    ++ codes "       you hand out what the new key seals; or give --saved, with which no line seals,\n"
    ++ codes "       reseals or tags while the keyset has an edit that no file has\n\n"
    ++ codes "  tinkey session --keyset FILE [--keyset-format json|binary] [--out FILE]\n"
    ++ codes "      [--out-format json|binary] [--saved] [--master FILE] [--master-format json|binary]\n\n"
    ++ codes "Required:\n"
    ++ keyset_31
    ++ codes "\nOptional:\n"
    ++ keyset_format_31 ++ out_31 ++ out_format_31
    ++ codes "  --saved                      seals and tags only under a keyset that a file has\n"
    ++ master_31 ++ master_format_31
    ++ codes "\nReads  the keyset, and lines on standard input; bytes are hexadecimal, and - stands for none\n"
    ++ codes "Gives  one reply for each line, on standard output: ok and what the line gives, or no and\n"
    ++ codes "       the reason, and the session goes on; and then the last keyset in the new file of\n"
    ++ codes "       --out\n\n"
    ++ codes "Lines, with the reply to each:\n"
    ++ codes "  seal TEXT AD, open TEXT AD: ok BYTES\n"
    ++ codes "      as the commands seal and open; AD are the associated data\n"
    ++ codes "  dseal TEXT AD, dopen TEXT AD: ok BYTES\n"
    ++ codes "      as dseal and dopen\n"
    ++ codes "  reseal TEXT AD, dreseal TEXT AD: ok BYTES\n"
    ++ codes "      opens, and seals again under the primary key\n"
    ++ codes "  tag TEXT: ok BYTES\n"
    ++ codes "      as tag\n"
    ++ codes "  verify TAG TEXT: ok\n"
    ++ codes "      as verify\n"
    ++ codes "  derive N TEXT: ok BYTES\n"
    ++ codes "      derives N bytes\n"
    ++ codes "  add NAME, rotate NAME: ok ID\n"
    ++ codes "      adds a key of the template; rotate makes it the primary. ID is its key id\n"
    ++ codes "  promote ID, enable ID, disable ID, destroy ID, delete ID: ok\n"
    ++ codes "      the edit of that name\n"
    ++ codes "  save FILE: ok\n"
    ++ codes "      makes a new file of the keyset as it is now, in the form of --out-format, and with\n"
    ++ codes "      --master encrypted; the reply comes once the file lasts\n"
    ++ codes "  any line that is rejected: no REASON\n"
    ++ codes "      nothing changes, and the session goes on\n\n"
    ++ codes "Why a line is refused:\n"
    ++ codes "  no bad line\n"
    ++ codes "      to any: not a line of the table above: a word too many or too few, an odd number of\n"
    ++ codes "      digits, two spaces\n"
    ++ codes "  no open failed\n"
    ++ codes "      to open, dopen, reseal, dreseal: no enabled key of the keyset opens the text with this\n"
    ++ codes "      AD\n"
    ++ codes "  no verify failed\n"
    ++ codes "      to verify: no enabled key of the keyset makes this tag of this text\n"
    ++ codes "  no output too long: N over M\n"
    ++ codes "      to derive: the key derives at most M bytes\n"
    ++ codes "  no key N has no manager for this command, no key N is not valid: RULE, no key N is not RAW\n"
    ++ codes "      to all but edits: the keyset has an enabled key that can't do this work. N counts from\n"
    ++ codes "      0; the last reply comes to derive alone\n"
    ++ codes "  no unknown key template, no asymmetric key template\n"
    ++ codes "      to add, rotate: NAME is no template, or one for asymmetric keys\n"
    ++ codes "  no key of another primitive, no no free key id, no too many keys\n"
    ++ codes "      to add, rotate: as for the commands\n"
    ++ codes "  no key not found\n"
    ++ codes "      to edits by ID: no key has the id\n"
    ++ codes "  no key is primary\n"
    ++ codes "      to disable, destroy, delete: make another key the primary first\n"
    ++ codes "  no key is not enabled\n"
    ++ codes "      to promote: enable it first\n"
    ++ codes "  no key is destroyed\n"
    ++ codes "      to enable, disable: its material is gone\n"
    ++ codes "  no key refused: RULE, no key of another primitive\n"
    ++ codes "      to enable: the key's message can't be used in this keyset\n"
    ++ codes "  no primary would be ambiguous\n"
    ++ codes "      to promote, enable: another key has this id\n"
    ++ codes "  no output file exists\n"
    ++ codes "      to save: anything has the name: no file is ever replaced\n"
    ++ codes "  no keyset too long\n"
    ++ codes "      to save: as it is written it would be too long to be read again\n"
    ++ codes "  no keyset is not saved\n"
    ++ codes "      to seal, dseal, reseal, dreseal, tag: only with --saved: since the last accepted edit\n"
    ++ codes "      no save was answered ok\n"
    ++ codes "  no store fault\n"
    ++ codes "      to save: the file couldn't be made: its folder isn't there, permission is missing, the\n"
    ++ codes "      disk is full\n"
    ++ codes_012345678
    ++ codes "  tinkey create-keyset --key-template AES256_GCM --out session.json\n"
    ++ codes "  (echo rotate AES256_GCM; echo save rotated-session.json; echo seal 00 -) |\n"
    ++ codes "      tinkey session --keyset session.json --out after.json\n"
command_text commands.Selftest =
    codes "tinkey selftest: seals, opens and edits many times, and counts the results\n\n"
    ++ codes "  tinkey selftest --seed N [--lines N]\n\n"
    ++ codes "Required:\n"
    ++ codes "  --seed N   the number that the self-test is made from: 1 to 10 decimal digits, of a number\n"
    ++ codes "             up to 4,294,967,295\n\n"
    ++ codes "Optional:\n"
    ++ codes "  --lines N  how many lines it has: 1 to 10 decimal digits, of a number from 1 to 100,000;\n"
    ++ codes "             1,000 if it isn't given\n"
    ++ read_by_create_keyset
    ++ codes "Gives  one line of counts, on standard output\n\n"
    ++ codes "Exit codes:\n"
    ++ code_0 ++ code_2 ++ code_4 ++ code_5 ++ code_7 ++ code_8
    ++ codes "\nExample:\n"
    ++ codes "  tinkey selftest --seed 1 --lines 1000\n"

-- how help is asked for, and which topics there are
unfoldable pub help_on_help : List ℕ
help_on_help =
    codes "tinkey help: lists the commands, or prints the help on a topic\n\n"
    ++ codes "  tinkey help [TOPIC]\n"
    ++ codes "  tinkey --help\n"
    ++ codes "  tinkey COMMAND --help\n\n"
    ++ codes "Without a topic the commands are listed. -h is --help.\n\n"
    ++ codes "Topics:\n"
    ++ codes "  COMMAND  its options, what it reads and gives, its exit codes, an example\n"
    ++ codes "  exit     the diagnostic lines: what each means, and what to do next\n"
    ++ codes "  help     how help is asked for, and which topics there are\n"
    ++ codes "  version  what tinkey version prints\n"
    ++ read_by_create_keyset
    ++ codes "Gives  the text that is asked for, on standard output\n"
    ++ codes_02578
    ++ codes "  tinkey help seal\n"

-- what `tinkey version` prints
unfoldable pub help_on_version : List ℕ
help_on_version =
    codes "tinkey version: prints the version\n\n"
    ++ codes "  tinkey version\n"
    ++ codes "  tinkey --version\n"
    ++ read_by_create_keyset
    ++ codes "Gives  two lines, on standard output: the program's version, and the number of the logic\n"
    ++ codes "       that it is proved in\n"
    ++ codes_02578
    ++ codes "  tinkey version\n"

-- what a topic has to say
abbrev pub help_text : Topic → List ℕ
help_text topics.Commands = list_text
help_text topics.Exit = exit_text
help_text topics.Help = help_on_help
help_text topics.Version = help_on_version
help_text (topics.Command command) = command_text command

-- the version
unfoldable pub version_text : List ℕ
version_text =
    codes "tinkey 0.9.0\n"
    ++ codes "proved with logic dac8208d650f15bf\n"
