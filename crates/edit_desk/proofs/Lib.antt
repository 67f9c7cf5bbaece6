mod FileLaws
mod MemoryLaws
mod PrinterLaws
