mod ReportLaws
mod SumLaws
